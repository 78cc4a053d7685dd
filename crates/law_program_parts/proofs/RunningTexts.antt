-- The table of a text that keeps the rules, and the program that the text becomes.
use Rattle.std.proofs.Common.{◌≡◌, sym, subst, ℕ, ◌<◌, inr, false, true, List, length, Some, Ok}
use Rattle.std.specs.Prelude.{slice_get}
use Rattle.std.specs.List.{All}
use Rattle.wy_kernel.specs.Program.{Program, Class, Method}
use Rattle.wy_kernel.specs.Subtyping.{class_type}
use Rattle.wy_kernel.specs.Table.{Table, IsMethodOf}
use Rattle.wy_constant.specs.declared.rule.Rule.TheVariants as rule
use Rattle.wy_overloads.specs.Choice.{NearestHasBody}
use Rattle.wy_members.specs.Declarations.{CompilationUnit, table}
use Rattle.wy_members.specs.Broken.{Inherits, HasWrongMethod, again_method, declares_abstract, left_in, compared, known_part}
use Rattle.wy_members.specs.Refusal.{KeepsRules}
use Rattle.wy_elab_stmt.specs.Elaborates.{Elaborates}
use Rattle.wy_typing.specs.Types.{IsVariableType}
use Rattle.wy_typing.specs.Programs.{IsDeclared}
use Rattle.wy_typing.proofs.Ranges.{all_at}
use Rattle.law_program_parts.proofs.TypedMade.{Comes, comes}
use Rattle.law_program_parts.specs.RunningLaws.{ClassesRunMethods}
use Rattle.law_program_parts.proofs.Codes.{AreTyped}
use Rattle.law_program_parts.proofs.Chains.{IsAt}
use Rattle.law_program_parts.proofs.Rules.{KeepRules}
use Rattle.law_program_parts.proofs.Hierarchy.{judged, are_sorted}
use Rattle.law_program_parts.proofs.Compared.{all_is_known, compared_is}
use Rattle.law_program_parts.proofs.Abstract.{interfaces_abstract}
use Rattle.law_program_parts.proofs.Runs.{all_run}

module _ (unit : CompilationUnit) (keeps : KeepsRules unit) where
  none_again : (i j : ℕ) (a b : Method) → i < j → slice_get (table unit).methods i ≡ Some a → slice_get (table unit).methods j ≡ Some b → a.class ≡ b.class → a.name ≡ b.name → a.params ≡ b.params → ⊥
  none_again i j a b lt e f class name params =
      let back : unit ≡ known_part unit = sym (all_is_known unit keeps) in
      let there : (u : CompilationUnit) → unit ≡ u → slice_get (table u).methods i ≡ Some a =
      λ (u : CompilationUnit) (is : unit ≡ u). subst (λ (x : CompilationUnit). slice_get (table x).methods i ≡ Some a) is e in
      let behind : (u : CompilationUnit) → unit ≡ u → slice_get (table u).methods j ≡ Some b =
      λ (u : CompilationUnit) (is : unit ≡ u). subst (λ (x : CompilationUnit). slice_get (table x).methods j ≡ Some b) is f in
      keeps rule.Duplicate b.site (again_method {a = a} {b = b} (i, j, lt, there (known_part unit) back, behind (known_part unit) back) class name params)

  abbrev Left : Table → ℕ → ℕ → Class → Method → Type 0
  Left t c k row m = IsAt t.classes c row → row.is_abstract ≡ false → Inherits t c k m → (NearestHasBody t (class_type c) m → ⊥) → m.is_abstract ≡ true → ⊥

  none_left : (c k : ℕ) (row : Class) (m : Method) → Left (compared unit) c k row m
  none_left c k row m at concrete inherits none abstract = keeps rule.NotImplemented row.site (c, judged unit keeps c, left_in at concrete inherits none abstract)

  pub keep_rules : ((k : ℕ) (m : Method) → slice_get (table unit).methods k ≡ Some m → m.class < length (table unit).classes) → KeepRules (table unit).classes (table unit).methods
  keep_rules among = record {
    sorted = are_sorted unit keeps;
    apart = record { apart = none_again };
    overriding = λ c token wrong. keeps rule.BadOverride token (c, judged unit keeps c, inr (subst (λ (t : Table). HasWrongMethod t c token) (compared_is unit keeps) wrong));
    concrete = λ c row m at concrete member own abstract. keeps rule.NotImplemented m.site (c, judged unit keeps c, declares_abstract at concrete member own abstract);
    implemented = λ c k row m. subst (λ (t : Table). Left t c k row m) (sym (compared_is unit keeps)) (none_left c k row m);
    of_interfaces = interfaces_abstract unit;
    among = among;
  }

-- ---- the program

typed_methods : (p : Program) → IsDeclared p → (j : ℕ) (m : Method) → slice_get p.methods j ≡ Some m → AreTyped (length p.classes) m.params
typed_methods p declared j m found = record {
  variables = all_at (λ (x : Method). All IsVariableType x.params) p.methods j m declared.params found;
  known = (all_at (IsMethodOf (length p.classes)) p.methods j m declared.methods found).params;
}

kept_by : (unit : CompilationUnit) (count : ℕ) (p : Program) → Comes unit count p → IsDeclared p → KeepRules p.classes p.methods
kept_by unit count p is declared =
    subst (λ (ms : List Method). KeepRules p.classes ms) is.methods
    (subst (λ (cs : List Class). KeepRules cs (table unit).methods) is.classes
    (keep_rules unit is.keeps (λ k m found. subst (λ (cs : List Class). m.class < length cs) (sym is.classes) (all_at (IsMethodOf (length p.classes)) p.methods k m declared.methods (subst (λ (ms : List Method). slice_get ms k ≡ Some m) is.methods found)).class)))

pub classes_run : ((unit : CompilationUnit) (count : ℕ) (p : Program) → Elaborates unit count (Ok p) → IsDeclared p) → ClassesRunMethods
classes_run stand unit count p few fit accepted =
    let declared = stand unit count p accepted in
    all_run p few (kept_by unit count p (comes unit count p accepted) declared) (typed_methods p declared) fit
