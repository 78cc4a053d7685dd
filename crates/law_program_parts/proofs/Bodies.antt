-- All bodies of a text.
use Rattle.std.proofs.Common.{◌≡◌, ℕ, suc, ◌≤◌, Bool, true, false, refl, sym, ◌∙◌, ap, subst, List, [], ◌∷◌, ◌++◌, length, Option, Some, None, Ok, arith, if◌then◌else◌, ◌||◌, append_assoc}
use Rattle.std.specs.Prelude.{codes}
use Rattle.std.specs.List.{AllByRecursion, list_any}
use Rattle.std.proofs.lemmas.List.{append-nil}
use Rattle.wy_kernel.specs.declared.types.MethodForm.TheVariants as kind
use Rattle.wy_kernel.specs.Program.{Program, Method, Body}
use Rattle.wy_kernel.specs.Table.{ConstantValue}
use Rattle.wy_syntax.specs.declared.declaration.Modifier.TheVariants as modifier
use Rattle.wy_syntax.specs.Syntax.{Member, ClassSyntax}
use Rattle.wy_syntax.specs.Syntax as source
use Rattle.wy_constant.specs.Scope.{FixedText}
use Rattle.wy_members.specs.Declarations.{CompilationUnit, has, initializes_objects, is_constructor, implied, methods_in, methods_of}
use Rattle.wy_elab_expr.specs.Operators.{Judgement}
use Rattle.wy_elab_expr.specs.Meaning.{◌>>=◌}
use Rattle.wy_elab_expr.specs.Meaning as meaning
use Rattle.wy_elab_body.specs.declared.place.Place.{Place}
use Rattle.wy_elab_body.specs.Statements.{Setting}
use Rattle.wy_elab_body.specs.Bodies.{Growth}
use Rattle.wy_elab_stmt.specs.Classes.{ClassBodies, with_body, member, members, none_yet, of_class, of_interface, class_bodies}
use Rattle.wy_elab_stmt.specs.Program.{Bodies, no_bodies, and_more, bodies_from}
use Rattle.law_typed.specs.StatementsTyped.{setting, Makes as MakesProgram}
use Rattle.law_program_parts.specs.Classes.{ClassStands, ClassFits}
use Rattle.law_program_parts.specs.Rows.{NamesAgree, MayLackBody, IsHeader, DeclarationStands, AllStand, InitFits, RowsFit, rows_from, BodiesAreTyped}
use Rattle.law_program_parts.proofs.Growing.{found_on, one_found}
use Rattle.law_program_parts.proofs.Members.{class_typed, class_grown}
use Rattle.law_program_parts.proofs.Rows.{join, no_units, abstract_row, no_row_by, all_rows}

-- the same texts are no more
pub same_length : (xs ys : List FixedText) → xs ≡ ys → length ys ≤ length xs
same_length xs ys e = let is = ap length e in omega (arith, is)

module _ (p : Program) (constants : List (Option ConstantValue)) (j : Judgement) (all : List Place) (unit : CompilationUnit) (made : MakesProgram p constants j all) (names : NamesAgree p unit) where
  abbrev w : Setting
  w = setting p constants j all

  -- ---- interfaces

  abbrev Headers : ℕ → ClassSyntax → List Member → Growth → List FixedText → Growth × List FixedText → Type 0
  Headers c k ms g texts z = (new : List (Option Body)) × (z.0.bodies ≡ g.bodies ++ new) × RowsFit p (methods_in unit c k ms) new × (z.1 ≡ texts)

  headers : (c : ℕ) (k : ClassSyntax) (ms : List Member) (g : Growth) (texts : List FixedText) (z : Growth × List FixedText) → k.is_interface ≡ true → AllByRecursion IsHeader ms → members w c k g ms texts ≡ Ok z → Headers c k ms g texts z
  unfolding members member
  headers c k [] g texts z i h e = let P : Growth × List FixedText → Type 0 = λ y. Headers c k [] g texts y in subst P (one_found (g, texts) z _ refl e) ([], sym (append-nil g.bodies), tt, refl)
  headers c k (source.Method hd result None ∷ ms) g texts z i h e =
      let more = headers c k ms (with_body g None) texts z i h.1 e in
      (None ∷ more.0, more.1 ∙ append_assoc g.bodies (None ∷ []) more.0, (abstract_row k.is_interface (has modifier.Abstract hd.modifiers) i, more.2), more.3)
  headers c k (source.Member.Nothing ∷ ms) g texts z i h e = headers c k ms g texts z i h.1 e
  headers c k (source.Method hd result (Some b) ∷ ms) g texts z i h e = absurd h.0
  headers c k (source.Constructor hd own brace parts end ∷ ms) g texts z i h e = absurd h.0
  headers c k (source.Initializer s b ∷ ms) g texts z i h e = absurd h.0
  headers c k (source.Fields modifiers ty ds ∷ ms) g texts z i h e = absurd h.0
  headers c k (source.Member.Unknown ∷ ms) g texts z i h e = absurd h.0

  -- what a class or an interface gives
  record OfDeclaration (c : ℕ) (k : ClassSyntax) (texts : List FixedText) (q : ClassBodies × List FixedText) : Type 0 where
    pub grows : length texts ≤ length q.1
    pub fits : length q.1 ≤ length p.fixed_texts → RowsFit p (methods_of unit c k) q.0.bodies × InitFits p q.0.initializer

  interface_rows : (c : ℕ) (k : ClassSyntax) (new : List (Option Body)) → k.is_interface ≡ true → AllByRecursion IsHeader k.members → RowsFit p (methods_in unit c k k.members) new → RowsFit p (methods_of unit c k) new
  interface_rows c k new i h f =
      no_row_by (λ rows. RowsFit p rows new) (implied c k (codes "<fields>") kind.Fields ∷ []) (implied c k (codes "new") kind.Constructor ∷ []) (methods_in unit c k k.members) (list_any initializes_objects k.members) (k.is_interface || list_any is_constructor k.members)
      (no_units k.members h) (abstract_row k.is_interface (list_any is_constructor k.members) i) f

  interface_done : (c : ℕ) (k : ClassSyntax) (texts : List FixedText) (q : ClassBodies × List FixedText) → k.is_interface ≡ true → AllByRecursion IsHeader k.members → of_interface w c k texts ≡ Ok q → OfDeclaration c k texts q
  interface_done c k texts q i h e =
      let a = found_on (λ (g : Growth). meaning.give (made_interface g)) (members w c k (none_yet c k) k.members texts) q e in
      let d = headers c k k.members (none_yet c k) texts a.0 i h a.1 in
      let P : ClassBodies × List FixedText → Type 0 = λ y. OfDeclaration c k texts y in
      let Q : List (Option Body) → Type 0 = λ l. RowsFit p (methods_of unit c k) l in
      subst P (one_found (made_interface a.0.0, a.0.1) q _ refl a.2)
      (record { grows = same_length a.0.1 texts d.3; fits = λ lt. (subst Q (sym d.1) (interface_rows c k d.0 i h d.2), tt) })
    where
      made_interface : Growth → ClassBodies
      made_interface g = record { bodies = g.bodies; initializer = None }

  initializer_fits : (c : ℕ) (k : ClassSyntax) (x : ClassBodies) → ClassFits p c k x → InitFits p x.initializer
  initializer_fits c k x f = let P : Option Body → Type 0 = λ o. InitFits p o in subst P (sym f.there) f.initializer_fits

  class_done : (c : ℕ) (k : ClassSyntax) (texts : List FixedText) (q : ClassBodies × List FixedText) → k.is_interface ≡ false → ClassStands p constants all c k → AllByRecursion (MayLackBody k) k.members → of_class w c k texts ≡ Ok q → OfDeclaration c k texts q
  class_done c k texts q i h lack e = record {
    grows = class_grown p constants j all c k made h texts q.1 q.0 e;
    fits = λ lt. (let f = class_typed p constants j all c k made h texts q.1 q.0 e lt in (all_rows p unit c k names q.0 i lack f, initializer_fits c k q.0 f));
  }

  declaration_by : (c : ℕ) (k : ClassSyntax) (b : Bool) (texts : List FixedText) (q : ClassBodies × List FixedText) → k.is_interface ≡ b → DeclarationStands p constants all c k b → (if b then of_interface w c k else of_class w c k) texts ≡ Ok q → OfDeclaration c k texts q
  declaration_by c k true texts q i h e = interface_done c k texts q i h e
  declaration_by c k false texts q i h e = class_done c k texts q i h.0 h.1 e

  declaration_done : (c : ℕ) (k : ClassSyntax) (texts : List FixedText) (q : ClassBodies × List FixedText) → DeclarationStands p constants all c k k.is_interface → class_bodies w c k texts ≡ Ok q → OfDeclaration c k texts q
  unfolding class_bodies
  declaration_done c k texts q h e = declaration_by c k k.is_interface texts q refl h e

  -- ---- all

  record OfAll (c : ℕ) (ks : List ClassSyntax) (texts : List FixedText) (q : Bodies × List FixedText) : Type 0 where
    pub grows : length texts ≤ length q.1
    pub fits : length q.1 ≤ length p.fixed_texts → RowsFit p (rows_from unit c ks) q.0.methods × AllByRecursion (InitFits p) q.0.initializers

  none_done : (c : ℕ) (texts : List FixedText) → OfAll c [] texts (no_bodies, texts)
  none_done c texts = record { grows = omega arith; fits = λ lt. (tt, tt) }

  all_done : (c : ℕ) (ks : List ClassSyntax) (texts : List FixedText) (q : Bodies × List FixedText) → AllStand p constants all c ks → bodies_from w c ks texts ≡ Ok q → OfAll c ks texts q
  unfolding bodies_from
  all_done c [] texts q h e = let P : Bodies × List FixedText → Type 0 = λ y. OfAll c [] texts y in subst P (one_found (no_bodies, texts) q _ refl e) (none_done c texts)
  all_done c (k ∷ rest) texts q h e =
      let a = found_on (λ x. bodies_from w (suc c) rest >>= λ xs. meaning.give (and_more x xs)) (class_bodies w c k texts) q e in
      let d = found_on (λ xs. meaning.give (and_more a.0.0 xs)) (bodies_from w (suc c) rest a.0.1) q a.2 in
      let one = declaration_done c k texts a.0 h.0 a.1 in
      let more = all_done (suc c) rest a.0.1 d.0 h.1 d.1 in
      let P : Bodies × List FixedText → Type 0 = λ y. OfAll c (k ∷ rest) texts y in
      subst P (one_found (and_more a.0.0 d.0.0, d.0.1) q _ refl d.2)
      (record {
        grows = omega (arith, one.grows, more.grows);
        fits = λ lt. (let f = one.fits (omega (arith, more.grows, lt)) in let g = more.fits lt in
            (join p (methods_of unit c k) (rows_from unit (suc c) rest) a.0.0.bodies d.0.0.methods f.0 g.0, (f.1, g.1)));
      })

  pub all_typed : (c : ℕ) (ks : List ClassSyntax) (texts after : List FixedText) (x : Bodies) → AllStand p constants all c ks → bodies_from w c ks texts ≡ Ok (x, after) → length after ≤ length p.fixed_texts → RowsFit p (rows_from unit c ks) x.methods × AllByRecursion (InitFits p) x.initializers
  all_typed c ks texts after x h e lt = (all_done c ks texts (x, after) h e).fits lt

pub bodies_are_typed : BodiesAreTyped
bodies_are_typed p constants j all unit c ks texts after x made names stand e lt = all_typed p constants j all unit made names c ks texts after x stand e lt
