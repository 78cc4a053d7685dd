-- The main of a well-formed tree's program.
use Rattle.std.proofs.Common.{◌≡◌, ℕ, ◌≤◌, Bool, true, false, refl, sym, ◌∙◌, ap, subst, length, Some, None}
use Rattle.std.specs.List.{Contains}
use Rattle.wy_kernel.specs.Program.{Program, Method}
use Rattle.wy_syntax.specs.Syntax.{Braced, Header, ClassSyntax}
use Rattle.wy_syntax.specs.Syntax as source
use Rattle.wy_syntax.specs.Declarations.{unit}
use Rattle.wy_members.specs.Declarations.{CompilationUnit, is_abstract_in, table}
use Rattle.wy_members.specs.Broken.{IsSourceClass, body_too_much}
use Rattle.wy_members.specs.Refusal.{KeepsRules}
use Rattle.wy_members.proofs.Contained.{contained}
use Rattle.law_program_parts.specs.BodiesLaws.{MethodsOfTreesHaveBodies}
use Rattle.law_program_parts.proofs.Keeping.{implemented}
use Rattle.law_program_parts.specs.Mains.{FindsMain, RunsFirst, MainsStandAlone, TreesHaveMain}
use Rattle.law_program_parts.proofs.TypedMade.{comes}
use Rattle.law_program_parts.proofs.Mains.{mains_are_found}
use Rattle.law_program_parts.proofs.MainRows.{mains_run_first}

-- a method with a body isn't abstract
concrete : (text : CompilationUnit) → KeepsRules text → (c : ℕ) (k : ClassSyntax) (h : Header) (b : Braced) → IsSourceClass text c k → Contains k.members (source.Method h None (Some b)) → is_abstract_in k h ≡ false
concrete text keeps c k h b stands there = by (is_abstract_in k h) refl
  where
    by : (x : Bool) → is_abstract_in k h ≡ x → is_abstract_in k h ≡ false
    by false e = e
    by true e = absurd (implemented text keeps c h.name.token (body_too_much (record { written = stands; member = there }) refl e))

main_by : (text : CompilationUnit) (p : Program) → KeepsRules text → MainsStandAlone text → length (table text).classes ≤ 1048594 → (table text).methods ≡ p.methods → (f : FindsMain text p) → RunsFirst f.method × (f.method.is_abstract ≡ false)
main_by text p keeps alone few same f =
    let among : Contains (table text).methods f.method = subst (λ l. Contains l f.method) (sym same) (contained p.methods p.main f.method f.found) in
    let a = alone f.class f.header f.block f.method f.in_text f.in_class f.written among f.at_name in
    let not_abstract = concrete text keeps a.0 f.class f.header f.block a.1 f.in_class in
    (subst RunsFirst (sym a.2) (mains_run_first text a.0 f.class f.header few f.written), ap (λ (m : Method). m.is_abstract) a.2 ∙ not_abstract)

pub trees_have_main : MethodsOfTreesHaveBodies → TreesHaveMain
trees_have_main have_bodies tree w alone few tokens p h =
    let c = comes (unit 0 tree) tokens p h in
    let f = mains_are_found (unit 0 tree) tokens p h in
    let d = main_by (unit 0 tree) p c.keeps alone few c.methods f in
    record {
      method = f.method;
      found = f.found;
      static = d.0.static;
      params = d.0.params;
      result = d.0.result;
      body = have_bodies tree w tokens p h p.main f.method f.found d.1;
    }
