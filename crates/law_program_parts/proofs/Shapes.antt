-- Which methods have bodies.
use Rattle.std.proofs.Common.{◌≡◌, ℕ, suc, Bool, true, false, not, refl, sym, ◌∙◌, ap, subst, List, [], ◌∷◌, ◌++◌, Option, Some, None, Ok, if◌then◌else◌, ◌||◌, append_assoc}
use Rattle.std.specs.Prelude.{codes}
use Rattle.std.specs.List.{AllByRecursion, list_any}
use Rattle.std.proofs.lemmas.List.{append-nil}
use Rattle.wy_kernel.specs.declared.types.MethodForm.TheVariants as kind
use Rattle.wy_kernel.specs.Form as kernel
use Rattle.wy_kernel.specs.Program.{Method, Body}
use Rattle.wy_syntax.specs.declared.declaration.Modifier.TheVariants as modifier
use Rattle.wy_syntax.specs.Syntax.{Member, ClassSyntax}
use Rattle.wy_syntax.specs.Syntax as source
use Rattle.wy_constant.specs.Scope.{FixedText}
use Rattle.wy_members.specs.Declarations.{CompilationUnit, has, initializes_objects, is_constructor, implied, fields_unit, implied_constructor, methods_in, methods_of}
use Rattle.wy_elab_expr.specs.Meaning.{Gets, ◌>>=◌}
use Rattle.wy_elab_expr.specs.Meaning as meaning
use Rattle.wy_elab_body.specs.declared.place.Role.TheVariants.{InitializerBody, FieldsBody}
use Rattle.wy_elab_body.specs.Places.{has_fields_unit, declares_constructor}
use Rattle.wy_elab_body.specs.Making.{Makes, begun}
use Rattle.wy_elab_body.specs.Statements.{Setting}
use Rattle.wy_elab_body.specs.Bodies.{Growing, Growth, initializer_block, field_initials, method_block, constructor_block, implied_constructor_block, end_of, implied_body}
use Rattle.wy_elab_stmt.specs.Classes.{ClassBodies, whole, with_body, grown, in_initializer, in_fields, is_static, member, members, none_yet, fields_body, finished, of_class, of_interface, class_bodies}
use Rattle.wy_elab_stmt.specs.Classes as classes
use Rattle.wy_elab_stmt.specs.Program.{Bodies, no_bodies, and_more, bodies_from}
use Rattle.law_program_parts.specs.Rows.{MayLackBody, IsHeader, rows_from}
use Rattle.law_program_parts.specs.Shapes.{RowsStand, DeclarationKeeps, AllKeep, BodiesStand}
use Rattle.law_program_parts.proofs.Growing.{found_on, one_found}
use Rattle.law_program_parts.proofs.Rows.{no_units, abstract_row, no_row_by}

pub join : (ms ns : List Method) (bs cs : List (Option Body)) → RowsStand ms bs → RowsStand ns cs → RowsStand (ms ++ ns) (bs ++ cs)
join [] ns [] cs h k = k
join (m ∷ ms) ns (b ∷ bs) cs h k = (h.0, join ms ns bs cs h.1 k)
join [] ns (b ∷ bs) cs h k = absurd h
join (m ∷ ms) ns [] cs h k = absurd h

module _ (w : Setting) (unit : CompilationUnit) (c : ℕ) (k : ClassSyntax) where
  -- what a member adds
  abbrev OneStands : Member → List (Option Body) → Type 0
  OneStands (source.Method h result None) new = new ≡ None ∷ []
  OneStands (source.Method h result (Some block)) new = (b : Body) × (new ≡ Some b ∷ [])
  OneStands (source.Constructor h own brace parts end) new = (b : Body) × (new ≡ Some b ∷ [])
  OneStands (source.Initializer b block) new = new ≡ []
  OneStands (source.Fields ms ty ds) new = new ≡ []
  OneStands source.Member.Nothing new = new ≡ []
  OneStands source.Member.Unknown new = new ≡ []

  abbrev Added : (List (Option Body) → Type 0) → Growth → Growth × List FixedText → Type 0
  Added Q g z = (new : List (Option Body)) × (z.0.bodies ≡ g.bodies ++ new) × Q new

  unchanged : (m : Member) (g next : Growth) (after : List FixedText) (z : Growth × List FixedText) → OneStands m [] → next.bodies ≡ g.bodies → meaning.give next after ≡ Ok z → Added (OneStands m) g z
  unchanged m g next after z one is e = ([], ap (λ (y : Growth × List FixedText). y.0.bodies) (sym (one_found (next, after) z _ refl e)) ∙ is ∙ sym (append-nil g.bodies), one)

  in_initializer_adds : (m : Member) (g : Growth) (texts : List FixedText) (z : Growth × List FixedText) (f : Makes (List kernel.Statement)) → OneStands m [] → in_initializer g f texts ≡ Ok z → Added (OneStands m) g z
  in_initializer_adds m g texts z f one e =
      let a = found_on (λ x. meaning.give (record g { initializer = x })) (grown g.initializer f texts) z e in unchanged m g (record g { initializer = a.0.0 }) a.0.1 z one refl a.2

  in_fields_adds : (m : Member) (g : Growth) (texts : List FixedText) (z : Growth × List FixedText) (f : Makes (List kernel.Statement)) → OneStands m [] → in_fields g f texts ≡ Ok z → Added (OneStands m) g z
  in_fields_adds m g texts z f one e =
      let a = found_on (λ x. meaning.give (record g { fields = x })) (grown g.fields f texts) z e in unchanged m g (record g { fields = a.0.0 }) a.0.1 z one refl a.2

  fields_by : (ms : List source.Placed) (ty : source.WrittenType) (ds : List source.Declarator) (s : Bool) (g : Growth) (texts : List FixedText) (z : Growth × List FixedText) →
      (if s then in_initializer g (field_initials w c true ty ds) else in_fields g (field_initials w c false ty ds)) texts ≡ Ok z → Added (OneStands (source.Fields ms ty ds)) g z
  fields_by ms ty ds true g texts z e = in_initializer_adds (source.Fields ms ty ds) g texts z (field_initials w c true ty ds) refl e
  fields_by ms ty ds false g texts z e = in_fields_adds (source.Fields ms ty ds) g texts z (field_initials w c false ty ds) refl e

  body_adds : (g : Growth) (texts : List FixedText) (z : Growth × List FixedText) (f : Gets Body) → meaning.onward (λ b. meaning.give (with_body g (Some b))) (f texts) ≡ Ok z → Added (λ new. (b : Body) × (new ≡ Some b ∷ [])) g z
  body_adds g texts z f e =
      let a = found_on (λ b. meaning.give (with_body g (Some b))) (f texts) z e in
      (Some a.0.0 ∷ [], ap (λ (y : Growth × List FixedText). y.0.bodies) (sym (one_found (with_body g (Some a.0.0), a.0.1) z _ refl a.2)), (a.0.0, refl))

  member_adds : (m : Member) (g : Growth) (texts : List FixedText) (z : Growth × List FixedText) → member w c k g m texts ≡ Ok z → Added (OneStands m) g z
  unfolding member
  member_adds (source.Initializer true b) g texts z e = in_initializer_adds (source.Initializer true b) g texts z (initializer_block w k InitializerBody b) refl e
  member_adds (source.Initializer false b) g texts z e = in_fields_adds (source.Initializer false b) g texts z (initializer_block w k FieldsBody b) refl e
  member_adds (source.Fields ms ty ds) g texts z e = fields_by ms ty ds (is_static ms) g texts z e
  member_adds (source.Method hd result None) g texts z e = (None ∷ [], ap (λ (y : Growth × List FixedText). y.0.bodies) (sym (one_found (with_body g None, texts) z _ refl e)), refl)
  member_adds (source.Method hd result (Some b)) g texts z e = body_adds g texts z (whole (begun c (not (is_static hd.modifiers)) hd.name.token) (end_of b) (method_block w hd result b)) e
  member_adds (source.Constructor hd own brace parts end) g texts z e = body_adds g texts z (whole (begun c true hd.name.token) end (constructor_block w c k hd own brace parts)) e
  member_adds source.Member.Nothing g texts z e = unchanged source.Member.Nothing g g texts z refl refl e
  member_adds source.Member.Unknown g texts z e = unchanged source.Member.Unknown g g texts z refl refl e

  stand_more : (m : Member) (rest : List Member) (one more : List (Option Body)) → MayLackBody k m → OneStands m one → RowsStand (methods_in unit c k rest) more → RowsStand (methods_in unit c k (m ∷ rest)) (one ++ more)
  stand_more (source.Method h result None) rest one more a e f = let P : List (Option Body) → Type 0 = λ x. RowsStand (methods_in unit c k (source.Method h result None ∷ rest)) (x ++ more) in subst P (sym e) (a, f)
  stand_more (source.Method h result (Some block)) rest one more a e f = let P : List (Option Body) → Type 0 = λ x. RowsStand (methods_in unit c k (source.Method h result (Some block) ∷ rest)) (x ++ more) in subst P (sym e.1) (tt, f)
  stand_more (source.Constructor h own brace parts end) rest one more a e f = let P : List (Option Body) → Type 0 = λ x. RowsStand (methods_in unit c k (source.Constructor h own brace parts end ∷ rest)) (x ++ more) in subst P (sym e.1) (tt, f)
  stand_more (source.Initializer b block) rest one more a e f = let P : List (Option Body) → Type 0 = λ x. RowsStand (methods_in unit c k rest) (x ++ more) in subst P (sym e) f
  stand_more (source.Fields ms ty ds) rest one more a e f = let P : List (Option Body) → Type 0 = λ x. RowsStand (methods_in unit c k rest) (x ++ more) in subst P (sym e) f
  stand_more source.Member.Nothing rest one more a e f = let P : List (Option Body) → Type 0 = λ x. RowsStand (methods_in unit c k rest) (x ++ more) in subst P (sym e) f
  stand_more source.Member.Unknown rest one more a e f = let P : List (Option Body) → Type 0 = λ x. RowsStand (methods_in unit c k rest) (x ++ more) in subst P (sym e) f

  members_add : (ms : List Member) (g : Growth) (texts : List FixedText) (z : Growth × List FixedText) → AllByRecursion (MayLackBody k) ms → members w c k g ms texts ≡ Ok z → Added (RowsStand (methods_in unit c k ms)) g z
  unfolding members
  members_add [] g texts z a e = ([], ap (λ (y : Growth × List FixedText). y.0.bodies) (sym (one_found (g, texts) z _ refl e)) ∙ sym (append-nil g.bodies), tt)
  members_add (m ∷ rest) g texts z a e =
      let d = found_on (λ next. members w c k next rest) (member w c k g m texts) z e in
      let one = member_adds m g texts d.0 d.1 in let more = members_add rest d.0.0 d.0.1 z a.1 d.2 in
      (one.0 ++ more.0, more.1 ∙ ap (λ (l : List (Option Body)). l ++ more.0) one.1 ∙ append_assoc g.bodies one.0 more.0, stand_more m rest one.0 more.0 a.0 one.2 more.2)

  -- ---- classes

  unit_stands : (b : Bool) (g : Growing) → RowsStand (if b then implied c k (codes "<fields>") kind.Fields ∷ [] else []) (if b then Some (implied_body w k FieldsBody g) ∷ [] else [])
  unit_stands true g = (tt, tt)
  unit_stands false g = tt

  implied_stands : (i b : Bool) (texts : List FixedText) (q : List (Option Body) × List FixedText) → i ≡ false →
      (if b then meaning.give [] else (whole (begun c true k.name.token) k.name.token (implied_constructor_block w c k) >>= λ body. meaning.give (Some body ∷ []))) texts ≡ Ok q → RowsStand (if i || b then [] else implied c k (codes "new") kind.Constructor ∷ []) q.0
  implied_stands true b texts q i e = absurd (cc)
  implied_stands false true texts q i e = let P : List (Option Body) × List FixedText → Type 0 = λ y. RowsStand [] y.0 in subst P (one_found ([], texts) q _ refl e) tt
  implied_stands false false texts q i e =
      let a = found_on (λ body. meaning.give (Some body ∷ [])) (whole (begun c true k.name.token) k.name.token (implied_constructor_block w c k) texts) q e in
      let P : List (Option Body) × List FixedText → Type 0 = λ y. RowsStand (implied c k (codes "new") kind.Constructor ∷ []) y.0 in
      subst P (one_found (Some a.0.0 ∷ [], a.0.1) q _ refl a.2) (tt, tt)

  implied_there : (texts : List FixedText) (q : List (Option Body) × List FixedText) → k.is_interface ≡ false → classes.implied_constructor w c k texts ≡ Ok q → RowsStand (implied_constructor c k) q.0
  unfolding classes.implied_constructor
  implied_there texts q i e = implied_stands k.is_interface (declares_constructor k) texts q i e

  class_stands : (texts : List FixedText) (q : ClassBodies × List FixedText) → k.is_interface ≡ false → AllByRecursion (MayLackBody k) k.members → of_class w c k texts ≡ Ok q → RowsStand (methods_of unit c k) q.0.bodies
  class_stands texts q i lack e =
      let a = found_on (λ implied. members w c k (none_yet c k) k.members >>= λ g. meaning.give (finished w k implied g)) (classes.implied_constructor w c k texts) q e in
      let d = found_on (λ g. meaning.give (finished w k a.0.0 g)) (members w c k (none_yet c k) k.members a.0.1) q a.2 in
      let ms = members_add k.members (none_yet c k) a.0.1 d.0 lack d.1 in
      let P : ClassBodies × List FixedText → Type 0 = λ y. RowsStand (methods_of unit c k) y.0.bodies in
      let Q : List (Option Body) → Type 0 = λ l. RowsStand (methods_of unit c k) (fields_body w k d.0.0.fields ++ a.0.0 ++ l) in
      subst P (one_found (finished w k a.0.0 d.0.0, d.0.1) q _ refl d.2)
      (subst Q (sym ms.1) (join (fields_unit c k ++ implied_constructor c k) (methods_in unit c k k.members) (fields_body w k d.0.0.fields ++ a.0.0) ms.0
      (join (fields_unit c k) (implied_constructor c k) (fields_body w k d.0.0.fields) a.0.0 (unit_stands (has_fields_unit k) d.0.0.fields) (implied_there texts a.0 i a.1)) ms.2))

  -- ---- interfaces

  headers_lack : (ms : List Member) → k.is_interface ≡ true → AllByRecursion IsHeader ms → AllByRecursion (MayLackBody k) ms
  headers_lack [] i h = tt
  headers_lack (source.Method hd result None ∷ ms) i h = (abstract_row k.is_interface (has modifier.Abstract hd.modifiers) i, headers_lack ms i h.1)
  headers_lack (source.Member.Nothing ∷ ms) i h = (tt, headers_lack ms i h.1)
  headers_lack (source.Method hd result (Some b) ∷ ms) i h = absurd h.0
  headers_lack (source.Constructor hd own brace parts end ∷ ms) i h = absurd h.0
  headers_lack (source.Initializer s b ∷ ms) i h = absurd h.0
  headers_lack (source.Fields modifiers ty ds ∷ ms) i h = absurd h.0
  headers_lack (source.Member.Unknown ∷ ms) i h = absurd h.0

  interface_stands : (texts : List FixedText) (q : ClassBodies × List FixedText) → k.is_interface ≡ true → AllByRecursion IsHeader k.members → of_interface w c k texts ≡ Ok q → RowsStand (methods_of unit c k) q.0.bodies
  interface_stands texts q i h e =
      let a = found_on (λ (g : Growth). meaning.give (of_growth g)) (members w c k (none_yet c k) k.members texts) q e in
      let ms = members_add k.members (none_yet c k) texts a.0 (headers_lack k.members i h) a.1 in
      let P : ClassBodies × List FixedText → Type 0 = λ y. RowsStand (methods_of unit c k) y.0.bodies in
      let Q : List (Option Body) → Type 0 = λ l. RowsStand (methods_of unit c k) l in
      subst P (one_found (of_growth a.0.0, a.0.1) q _ refl a.2)
      (subst Q (sym ms.1) (no_row_by (λ rows. RowsStand rows ms.0) (implied c k (codes "<fields>") kind.Fields ∷ []) (implied c k (codes "new") kind.Constructor ∷ []) (methods_in unit c k k.members) (list_any initializes_objects k.members) (k.is_interface || list_any is_constructor k.members)
      (no_units k.members h) (abstract_row k.is_interface (list_any is_constructor k.members) i) ms.2))
    where
      of_growth : Growth → ClassBodies
      of_growth g = record { bodies = g.bodies; initializer = None }

  declaration_by : (b : Bool) (texts : List FixedText) (q : ClassBodies × List FixedText) → k.is_interface ≡ b → DeclarationKeeps k b → (if b then of_interface w c k else of_class w c k) texts ≡ Ok q → RowsStand (methods_of unit c k) q.0.bodies
  declaration_by true texts q i h e = interface_stands texts q i h e
  declaration_by false texts q i h e = class_stands texts q i h e

  pub declaration_stands : (texts : List FixedText) (q : ClassBodies × List FixedText) → DeclarationKeeps k k.is_interface → class_bodies w c k texts ≡ Ok q → RowsStand (methods_of unit c k) q.0.bodies
  unfolding class_bodies
  declaration_stands texts q h e = declaration_by k.is_interface texts q refl h e

all_stand : (w : Setting) (unit : CompilationUnit) (c : ℕ) (ks : List ClassSyntax) (texts : List FixedText) (q : Bodies × List FixedText) → AllKeep ks → bodies_from w c ks texts ≡ Ok q → RowsStand (rows_from unit c ks) q.0.methods
unfolding bodies_from
all_stand w unit c [] texts q h e = let P : Bodies × List FixedText → Type 0 = λ y. RowsStand [] y.0.methods in subst P (one_found (no_bodies, texts) q _ refl e) tt
all_stand w unit c (k ∷ rest) texts q h e =
    let a = found_on (λ x. bodies_from w (suc c) rest >>= λ xs. meaning.give (and_more x xs)) (class_bodies w c k texts) q e in
    let d = found_on (λ xs. meaning.give (and_more a.0.0 xs)) (bodies_from w (suc c) rest a.0.1) q a.2 in
    let P : Bodies × List FixedText → Type 0 = λ y. RowsStand (methods_of unit c k ++ rows_from unit (suc c) rest) y.0.methods in
    subst P (one_found (and_more a.0.0 d.0.0, d.0.1) q _ refl d.2)
    (join (methods_of unit c k) (rows_from unit (suc c) rest) a.0.0.bodies d.0.0.methods (declaration_stands w unit c k texts a.0 h.0 a.1) (all_stand w unit (suc c) rest a.0.1 d.0 h.1 d.1))

pub bodies_stand : BodiesStand
bodies_stand w unit c ks texts after x h e = all_stand w unit c ks texts (x, after) h e
