-- The text that the library's bodies hold is a text of every program.
use Rattle.std.proofs.Common.{◌≡◌, ℕ, suc, ◌+◌, ◌≤◌, Bool, true, false, refl, sym, ◌∙◌, ap, subst, List, [], ◌∷◌, length, Option, Some, None, Ok, arith, if◌then◌else◌}
use Rattle.std.specs.Prelude.{nat_le}
use Rattle.std.specs.List.{AllByRecursion}
use Rattle.std.proofs.lemmas.List.{length-map}
use Rattle.wy_kernel.specs.Program.{Program, first_source_class}
use Rattle.wy_kernel.specs.Builtin as builtin
use Rattle.wy_kernel.specs.Table.{Table, BeginsWith, ConstantValue}
use Rattle.wy_syntax.specs.Syntax.{Member, ClassSyntax}
use Rattle.wy_syntax.specs.Syntax as source
use Rattle.wy_constant.specs.Scope.{FixedText}
use Rattle.wy_members.specs.Declarations.{CompilationUnit, classes_of, table}
use Rattle.wy_elab_expr.specs.Operators.{Judgement}
use Rattle.wy_elab_expr.specs.Meaning.{◌>>=◌}
use Rattle.wy_elab_expr.specs.Meaning as meaning
use Rattle.wy_elab_body.specs.declared.place.Place.{Place}
use Rattle.wy_elab_body.specs.Places.{places_of}
use Rattle.wy_elab_body.specs.Statements.{Setting}
use Rattle.wy_elab_body.specs.Bodies.{Growth}
use Rattle.wy_elab_stmt.specs.Classes.{ClassBodies, with_body, member, members, none_yet, of_class, of_interface, class_bodies}
use Rattle.wy_elab_stmt.specs.Program.{Bodies, no_bodies, and_more, bodies_from, bodies_of, library_text, in_order, program_with}
use Rattle.wy_kernel.specs.Order.{inserted}
use Rattle.wy_elab_stmt.specs.Program as whole
use Rattle.law_typed.specs.StatementsTyped.{setting, Makes}
use Rattle.law_typed.specs.Library.{HasLibrary}
use Rattle.law_program_parts.specs.Rows.{IsHeader, DeclarationStands, AllStand}
use Rattle.law_program_parts.proofs.Bodies.{same_length}
use Rattle.law_program_parts.proofs.TypedMade.{made_of}
use Rattle.law_program_parts.proofs.Growing.{found_on, one_found}
use Rattle.law_program_parts.proofs.Members.{class_grown}
use Rattle.law_program_parts.specs.DeclaredLaws.{ProgramsHaveLibrary}
use Rattle.law_program_parts.proofs.Made.{begins_classes, begins_methods, begins_fields}

-- ---- bodies leave no text out

module _ (p : Program) (constants : List (Option ConstantValue)) (j : Judgement) (all : List Place) (made : Makes p constants j all) where
  abbrev w : Setting
  w = setting p constants j all

  headers_same : (c : ℕ) (k : ClassSyntax) (ms : List Member) (g : Growth) (texts : List FixedText) (z : Growth × List FixedText) → AllByRecursion IsHeader ms → members w c k g ms texts ≡ Ok z → z.1 ≡ texts
  unfolding members member
  headers_same c k [] g texts z h e = ap (λ (y : Growth × List FixedText). y.1) (sym (one_found (g, texts) z _ refl e))
  headers_same c k (source.Method hd result None ∷ ms) g texts z h e = headers_same c k ms (with_body g None) texts z h.1 e
  headers_same c k (source.Member.Nothing ∷ ms) g texts z h e = headers_same c k ms g texts z h.1 e
  headers_same c k (source.Method hd result (Some b) ∷ ms) g texts z h e = absurd h.0
  headers_same c k (source.Constructor hd own brace parts end ∷ ms) g texts z h e = absurd h.0
  headers_same c k (source.Initializer s b ∷ ms) g texts z h e = absurd h.0
  headers_same c k (source.Fields modifiers ty ds ∷ ms) g texts z h e = absurd h.0
  headers_same c k (source.Member.Unknown ∷ ms) g texts z h e = absurd h.0

  by_kind : (c : ℕ) (k : ClassSyntax) (b : Bool) (texts : List FixedText) (q : ClassBodies × List FixedText) → DeclarationStands p constants all c k b → (if b then of_interface w c k else of_class w c k) texts ≡ Ok q → length texts ≤ length q.1
  by_kind c k true texts q h e =
      let a = found_on (λ (g : Growth). meaning.give (of_growth g)) (members w c k (none_yet c k) k.members texts) q e in
      same_length q.1 texts (ap (λ (y : ClassBodies × List FixedText). y.1) (sym (one_found (of_growth a.0.0, a.0.1) q _ refl a.2)) ∙ headers_same c k k.members (none_yet c k) texts a.0 h a.1)
    where
      of_growth : Growth → ClassBodies
      of_growth g = record { bodies = g.bodies; initializer = None }
  by_kind c k false texts q h e = class_grown p constants j all c k made h.0 texts q.1 q.0 e

  class_keeps : (c : ℕ) (k : ClassSyntax) (texts : List FixedText) (q : ClassBodies × List FixedText) → DeclarationStands p constants all c k k.is_interface → class_bodies w c k texts ≡ Ok q → length texts ≤ length q.1
  unfolding class_bodies
  class_keeps c k texts q h e = by_kind c k k.is_interface texts q h e

  pub all_keep : (c : ℕ) (ks : List ClassSyntax) (texts : List FixedText) (q : Bodies × List FixedText) → AllStand p constants all c ks → bodies_from w c ks texts ≡ Ok q → length texts ≤ length q.1
  unfolding bodies_from
  all_keep c [] texts q h e = same_length q.1 texts (ap (λ (y : Bodies × List FixedText). y.1) (sym (one_found (no_bodies, texts) q _ refl e)))
  all_keep c (k ∷ rest) texts q h e =
      let a = found_on (λ x. bodies_from w (suc c) rest >>= λ xs. meaning.give (and_more x xs)) (class_bodies w c k texts) q e in
      let d = found_on (λ xs. meaning.give (and_more a.0.0 xs)) (bodies_from w (suc c) rest a.0.1) q a.2 in
      let one = class_keeps c k texts a.0 h.0 a.1 in
      let more = all_keep (suc c) rest a.0.1 d.0 h.1 d.1 in
      let last = same_length q.1 d.0.1 (ap (λ (y : Bodies × List FixedText). y.1) (sym (one_found (and_more a.0.0 d.0.0, d.0.1) q _ refl d.2))) in
      omega (arith, one, more, last)

-- ---- texts in order are as many

abbrev token_of : FixedText → ℕ
token_of t = t.token

one_longer : (t : FixedText) (xs : List FixedText) → length (inserted token_of t xs) ≡ length xs + 1
one_longer t [] = refl
one_longer t (x ∷ rest) = by (nat_le t.token x.token) (one_longer t rest)
  where
    by : (b : Bool) → length (inserted token_of t rest) ≡ length rest + 1 → length (if b then t ∷ x ∷ rest else x ∷ inserted token_of t rest) ≡ length (x ∷ rest) + 1
    by true more = omega arith
    by false more = omega (arith, more)

in_order_as_many : (xs : List FixedText) → length (in_order xs) ≡ length xs
unfolding in_order
in_order_as_many [] = refl
in_order_as_many (t ∷ rest) = let more = in_order_as_many rest in let one = one_longer t (in_order rest) in omega (arith, more, one)

-- ---- the library of a program

has_library : (j : Judgement) (t : Table) (unit : CompilationUnit) (main : ℕ) (x y : Bodies × List FixedText) → t.classes ≡ (table unit).classes → t.methods ≡ (table unit).methods → t.fields ≡ (table unit).fields →
    bodies_of (whole.setting j t unit) unit (library_text ∷ []) ≡ Ok x → bodies_of (whole.setting j t unit) unit (in_order x.1) ≡ Ok y →
    Makes (program_with t unit main y.0 y.1) t.constants j (places_of t unit) → AllStand (program_with t unit main y.0 y.1) t.constants (places_of t unit) first_source_class (classes_of unit) → HasLibrary (program_with t unit main y.0 y.1)
has_library j t unit main x y classes methods fields a b made stand =
    let p : Program = program_with t unit main y.0 y.1 in
    let first : 1 ≤ length x.1 = all_keep p t.constants j (places_of t unit) made first_source_class (classes_of unit) (library_text ∷ []) x stand a in
    let second : length (in_order x.1) ≤ length y.1 = all_keep p t.constants j (places_of t unit) made first_source_class (classes_of unit) (in_order x.1) y stand b in
    record {
      classes = subst (λ l. BeginsWith l builtin.classes) (sym classes) (begins_classes unit);
      methods = subst (λ l. BeginsWith l builtin.methods) (sym methods) (begins_methods unit);
      fields = subst (λ l. BeginsWith l builtin.fields) (sym fields) (begins_fields unit);
      bodies = (y.0.methods, refl);
      text = omega (arith, first, second, in_order_as_many x.1, length-map y.1 (λ (z : FixedText). z.units));
      statements = omega arith;
    }

pub programs_have_library : ProgramsHaveLibrary
programs_have_library j t unit tokens p is made stand e =
    let d = made_of j t unit tokens p e in
    let P : Program → Type 0 = λ x. Makes x t.constants j (places_of t unit) → AllStand x t.constants (places_of t unit) first_source_class (classes_of unit) → HasLibrary x in
    subst P d.is
    (has_library j t unit d.main d.first (d.bodies, d.texts) (ap (λ (x : Table). x.classes) is.rows) (ap (λ (x : Table). x.methods) is.rows) (ap (λ (x : Table). x.fields) is.rows) d.made_first d.made) made stand
