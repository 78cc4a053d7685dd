-- A program has a place for the body of each method, and one for the initializer of each class.
use Rattle.std.proofs.Common.{◌≡◌, ℕ, suc, ◌+◌, Bool, true, false, refl, sym, ◌∙◌, ap, subst, List, [], ◌∷◌, ◌++◌, length, Option, Some, None, Ok, if◌then◌else◌, ◌||◌, arith}
use Rattle.std.specs.Prelude.{codes, not}
use Rattle.std.specs.List.{cons_option, list_any}
use Rattle.std.proofs.lemmas.List.{length-append}
use Rattle.wy_kernel.specs.declared.types.MethodForm.TheVariants as kind
use Rattle.wy_kernel.specs.Form as kernel
use Rattle.wy_kernel.specs.Program.{Method, Body, Program, first_source_class}
use Rattle.wy_kernel.specs.Builtin as builtin
use Rattle.wy_kernel.specs.Table.{Table}
use Rattle.wy_syntax.specs.Syntax.{Member, ClassSyntax}
use Rattle.wy_syntax.specs.Syntax as source
use Rattle.wy_constant.specs.Scope.{FixedText}
use Rattle.wy_members.specs.Declarations.{CompilationUnit, classes_of, initializes_objects, is_constructor, implied, fields_unit, implied_constructor, method_in, methods_in, methods_of}
use Rattle.wy_members.proofs.InRange.{many_classes}
use Rattle.wy_elab_expr.specs.Meaning.{Gets, ◌>>=◌}
use Rattle.wy_elab_expr.specs.Meaning as meaning
use Rattle.wy_elab_body.specs.declared.place.Role.TheVariants.{InitializerBody, FieldsBody}
use Rattle.wy_elab_body.specs.Places.{has_fields_unit, declares_constructor}
use Rattle.wy_elab_body.specs.Making.{Makes, begun}
use Rattle.wy_elab_body.specs.Statements.{Setting}
use Rattle.wy_elab_body.specs.Bodies.{Growing, Growth, initializer_block, field_initials, method_block, constructor_block, implied_constructor_block, end_of, implied_body}
use Rattle.wy_library.specs.Library.{library_bodies, library_init_bodies}
use Rattle.wy_elab_stmt.specs.Classes.{ClassBodies, whole, with_body, grown, in_initializer, in_fields, is_static, member, members, none_yet, fields_body, finished, of_class, of_interface, class_bodies}
use Rattle.wy_elab_stmt.specs.Classes as classes
use Rattle.wy_elab_stmt.specs.Program.{Bodies, in_order, no_bodies, and_more, bodies_from}
use Rattle.law_program_parts.specs.Rows.{rows_from}
use Rattle.law_program_parts.proofs.TypedMade.{comes}
use Rattle.law_program_parts.proofs.TypedNames.{tables_have_rows}
use Rattle.law_program_parts.proofs.Growing.{found_on, one_found}
use Rattle.law_program_parts.specs.DeclaredLaws.{InitializesNothing, AllInterfacesAreBare, InitializersHavePlaces, BodiesHavePlaces}

cons_many : (o : Option Method) (l : List Method) → length (cons_option o l) ≡ length (cons_option o []) + length l
cons_many None l = omega arith
cons_many (Some m) l = omega arith

from_none : (x n : ℕ) → x ≡ 0 + n → x ≡ n
from_none x n e = omega arith

module _ (w : Setting) (unit : CompilationUnit) (c : ℕ) (k : ClassSyntax) where
  -- how many rows a member has in the table
  abbrev rows : Member → ℕ
  rows m = length (cons_option (method_in unit c k m) [])

  -- so many bodies more
  abbrev Longer : ℕ → Growth → Growth × List FixedText → Type 0
  Longer n g z = length z.0.bodies ≡ length g.bodies + n

  longer_by : (n : ℕ) (g next : Growth) (after : List FixedText) (z : Growth × List FixedText) → length next.bodies ≡ length g.bodies + n → meaning.give next after ≡ Ok z → Longer n g z
  longer_by n g next after z is e = ap (λ (y : Growth × List FixedText). length y.0.bodies) (sym (one_found (next, after) z _ refl e)) ∙ is

  same_many : (n : ℕ) → n ≡ n + 0
  same_many n = omega arith

  in_initializer_same : (g : Growth) (texts : List FixedText) (z : Growth × List FixedText) (f : Makes (List kernel.Statement)) → in_initializer g f texts ≡ Ok z → Longer 0 g z
  in_initializer_same g texts z f e =
      let a = found_on (λ x. meaning.give (record g { initializer = x })) (grown g.initializer f texts) z e in longer_by 0 g (record g { initializer = a.0.0 }) a.0.1 z (same_many (length g.bodies)) a.2

  in_fields_same : (g : Growth) (texts : List FixedText) (z : Growth × List FixedText) (f : Makes (List kernel.Statement)) → in_fields g f texts ≡ Ok z → Longer 0 g z
  in_fields_same g texts z f e =
      let a = found_on (λ x. meaning.give (record g { fields = x })) (grown g.fields f texts) z e in longer_by 0 g (record g { fields = a.0.0 }) a.0.1 z (same_many (length g.bodies)) a.2

  fields_same : (ty : source.WrittenType) (ds : List source.Declarator) (s : Bool) (g : Growth) (texts : List FixedText) (z : Growth × List FixedText) →
      (if s then in_initializer g (field_initials w c true ty ds) else in_fields g (field_initials w c false ty ds)) texts ≡ Ok z → Longer 0 g z
  fields_same ty ds true g texts z e = in_initializer_same g texts z (field_initials w c true ty ds) e
  fields_same ty ds false g texts z e = in_fields_same g texts z (field_initials w c false ty ds) e

  one_more : (g : Growth) (b : Option Body) → length (with_body g b).bodies ≡ length g.bodies + 1
  one_more g b = length-append g.bodies (b ∷ [])

  body_more : (g : Growth) (texts : List FixedText) (z : Growth × List FixedText) (f : Gets Body) → meaning.onward (λ b. meaning.give (with_body g (Some b))) (f texts) ≡ Ok z → Longer 1 g z
  body_more g texts z f e =
      let a = found_on (λ b. meaning.give (with_body g (Some b))) (f texts) z e in longer_by 1 g (with_body g (Some a.0.0)) a.0.1 z (one_more g (Some a.0.0)) a.2

  member_longer : (m : Member) (g : Growth) (texts : List FixedText) (z : Growth × List FixedText) → member w c k g m texts ≡ Ok z → Longer (rows m) g z
  unfolding member
  member_longer (source.Initializer true b) g texts z e = in_initializer_same g texts z (initializer_block w k InitializerBody b) e
  member_longer (source.Initializer false b) g texts z e = in_fields_same g texts z (initializer_block w k FieldsBody b) e
  member_longer (source.Fields ms ty ds) g texts z e = fields_same ty ds (is_static ms) g texts z e
  member_longer (source.Method hd result None) g texts z e = longer_by 1 g (with_body g None) texts z (one_more g None) e
  member_longer (source.Method hd result (Some b)) g texts z e = body_more g texts z (whole (begun c (not (is_static hd.modifiers)) hd.name.token) (end_of b) (method_block w hd result b)) e
  member_longer (source.Constructor hd own brace parts end) g texts z e = body_more g texts z (whole (begun c true hd.name.token) end (constructor_block w c k hd own brace parts)) e
  member_longer source.Member.Nothing g texts z e = longer_by 0 g g texts z (same_many (length g.bodies)) e
  member_longer source.Member.Unknown g texts z e = longer_by 0 g g texts z (same_many (length g.bodies)) e

  members_longer : (ms : List Member) (g : Growth) (texts : List FixedText) (z : Growth × List FixedText) → members w c k g ms texts ≡ Ok z → Longer (length (methods_in unit c k ms)) g z
  unfolding members
  members_longer [] g texts z e = longer_by 0 g g texts z (same_many (length g.bodies)) e
  members_longer (m ∷ rest) g texts z e =
      let d = found_on (λ next. members w c k next rest) (member w c k g m texts) z e in
      let one = member_longer m g texts d.0 d.1 in
      let more = members_longer rest d.0.0 d.0.1 z d.2 in
      let whole_row = cons_many (method_in unit c k m) (methods_in unit c k rest) in
      added (length z.0.bodies) (length d.0.0.bodies) (length g.bodies) (rows m) (length (methods_in unit c k rest)) _ more one whole_row
    where
      added : (z d g r n all : ℕ) → z ≡ d + n → d ≡ g + r → all ≡ r + n → z ≡ g + all
      added z d g r n all a b e = omega arith

  -- ---- classes

  unit_as_many : (b : Bool) (g : Growing) → length (if b then Some (implied_body w k FieldsBody g) ∷ [] else []) ≡ length (if b then implied c k (codes "<fields>") kind.Fields ∷ [] else [])
  unit_as_many true g = refl
  unit_as_many false g = refl

  implied_as_many : (i b : Bool) (texts : List FixedText) (q : List (Option Body) × List FixedText) → i ≡ false →
      (if b then meaning.give [] else (whole (begun c true k.name.token) k.name.token (implied_constructor_block w c k) >>= λ body. meaning.give (Some body ∷ []))) texts ≡ Ok q → length q.0 ≡ length (if i || b then [] else implied c k (codes "new") kind.Constructor ∷ [])
  implied_as_many true b texts q i e = absurd (cc)
  implied_as_many false true texts q i e = ap (λ (y : List (Option Body) × List FixedText). length y.0) (sym (one_found ([], texts) q _ refl e))
  implied_as_many false false texts q i e =
      let a = found_on (λ body. meaning.give (Some body ∷ [])) (whole (begun c true k.name.token) k.name.token (implied_constructor_block w c k) texts) q e in
      ap (λ (y : List (Option Body) × List FixedText). length y.0) (sym (one_found (Some a.0.0 ∷ [], a.0.1) q _ refl a.2))

  implied_there : (texts : List FixedText) (q : List (Option Body) × List FixedText) → k.is_interface ≡ false → classes.implied_constructor w c k texts ≡ Ok q → length q.0 ≡ length (implied_constructor c k)
  unfolding classes.implied_constructor
  implied_there texts q i e = implied_as_many k.is_interface (declares_constructor k) texts q i e

  -- a place for each row, and one initializer
  abbrev AsMany : ClassBodies → Type 0
  AsMany x = length x.bodies ≡ length (methods_of unit c k)

  three : (a b d : List (Option Body)) → length (a ++ b ++ d) ≡ length a + (length b + length d)
  three a b d = let x = length-append (a ++ b) d in let y = length-append a b in omega arith

  three_rows : (a b d : List Method) → length ((a ++ b) ++ d) ≡ length a + (length b + length d)
  three_rows a b d = let x = length-append (a ++ b) d in let y = length-append a b in omega arith

  class_as_many : (texts : List FixedText) (q : ClassBodies × List FixedText) → k.is_interface ≡ false → of_class w c k texts ≡ Ok q → AsMany q.0
  class_as_many texts q i e =
      let a = found_on (λ implied. members w c k (none_yet c k) k.members >>= λ g. meaning.give (finished w k implied g)) (classes.implied_constructor w c k texts) q e in
      let d = found_on (λ g. meaning.give (finished w k a.0.0 g)) (members w c k (none_yet c k) k.members a.0.1) q a.2 in
      let first : length (fields_body w k d.0.0.fields) ≡ length (fields_unit c k) = unit_as_many (has_fields_unit k) d.0.0.fields in
      let second : length a.0.0 ≡ length (implied_constructor c k) = implied_there texts a.0 i a.1 in
      let third : length d.0.0.bodies ≡ length (methods_in unit c k k.members) = from_none _ _ (members_longer k.members (none_yet c k) a.0.1 d.0 d.1) in
      ap (λ (y : ClassBodies × List FixedText). length y.0.bodies) (sym (one_found (finished w k a.0.0 d.0.0, d.0.1) q _ refl d.2))
      ∙ sums _ _ (length (fields_body w k d.0.0.fields)) (length a.0.0) (length d.0.0.bodies) (length (fields_unit c k)) (length (implied_constructor c k)) (length (methods_in unit c k k.members))
      (three (fields_body w k d.0.0.fields) a.0.0 d.0.0.bodies) (three_rows (fields_unit c k) (implied_constructor c k) (methods_in unit c k k.members)) first second third
    where
      sums : (x y a b d f g h : ℕ) → x ≡ a + (b + d) → y ≡ f + (g + h) → a ≡ f → b ≡ g → d ≡ h → x ≡ y
      sums x y a b d f g h p q r s t = omega arith

  -- ---- interfaces

  no_row_by : (a b rows : List Method) (x i y : Bool) → x ≡ false → i ≡ true → length rows ≡ length (((if x then a else []) ++ (if i || y then [] else b)) ++ rows)
  no_row_by a b rows false true y e f = refl
  no_row_by a b rows true i y e f = absurd (cc)
  no_row_by a b rows false false y e f = absurd (cc)

  interface_as_many : (texts : List FixedText) (q : ClassBodies × List FixedText) → k.is_interface ≡ true → list_any initializes_objects k.members ≡ false → of_interface w c k texts ≡ Ok q → AsMany q.0
  interface_as_many texts q i h e =
      let a = found_on (λ (g : Growth). meaning.give (of_growth g)) (members w c k (none_yet c k) k.members texts) q e in
      let some : length a.0.0.bodies ≡ length (methods_in unit c k k.members) = from_none _ _ (members_longer k.members (none_yet c k) texts a.0 a.1) in
      ap (λ (y : ClassBodies × List FixedText). length y.0.bodies) (sym (one_found (of_growth a.0.0, a.0.1) q _ refl a.2)) ∙ some
      ∙ no_row_by (implied c k (codes "<fields>") kind.Fields ∷ []) (implied c k (codes "new") kind.Constructor ∷ []) (methods_in unit c k k.members) (list_any initializes_objects k.members) k.is_interface (list_any is_constructor k.members) h i
    where
      of_growth : Growth → ClassBodies
      of_growth g = record { bodies = g.bodies; initializer = None }

  by_kind : (b : Bool) (texts : List FixedText) (q : ClassBodies × List FixedText) → k.is_interface ≡ b → InitializesNothing k b → (if b then of_interface w c k else of_class w c k) texts ≡ Ok q → AsMany q.0
  by_kind true texts q i h e = interface_as_many texts q i h e
  by_kind false texts q i h e = class_as_many texts q i e

  pub declaration_as_many : (texts : List FixedText) (q : ClassBodies × List FixedText) → InitializesNothing k k.is_interface → class_bodies w c k texts ≡ Ok q → AsMany q.0
  unfolding class_bodies
  declaration_as_many texts q h e = by_kind k.is_interface texts q refl h e

-- ---- all classes

all_as_many : (w : Setting) (unit : CompilationUnit) (c : ℕ) (ks : List ClassSyntax) (texts : List FixedText) (q : Bodies × List FixedText) → AllInterfacesAreBare ks → bodies_from w c ks texts ≡ Ok q → length q.0.methods ≡ length (rows_from unit c ks)
unfolding bodies_from
all_as_many w unit c [] texts q h e = ap (λ (y : Bodies × List FixedText). length y.0.methods) (sym (one_found (no_bodies, texts) q _ refl e))
all_as_many w unit c (k ∷ rest) texts q h e =
    let a = found_on (λ x. bodies_from w (suc c) rest >>= λ xs. meaning.give (and_more x xs)) (class_bodies w c k texts) q e in
    let d = found_on (λ xs. meaning.give (and_more a.0.0 xs)) (bodies_from w (suc c) rest a.0.1) q a.2 in
    let one : length a.0.0.bodies ≡ length (methods_of unit c k) = declaration_as_many w unit c k texts a.0 h.0 a.1 in
    let more : length d.0.0.methods ≡ length (rows_from unit (suc c) rest) = all_as_many w unit (suc c) rest a.0.1 d.0 h.1 d.1 in
    ap (λ (y : Bodies × List FixedText). length y.0.methods) (sym (one_found (and_more a.0.0 d.0.0, d.0.1) q _ refl d.2))
    ∙ length-append a.0.0.bodies d.0.0.methods ∙ ap (λ n. n + length d.0.0.methods) one ∙ ap (λ n. length (methods_of unit c k) + n) more ∙ sym (length-append (methods_of unit c k) (rows_from unit (suc c) rest))

initializers_as_many : (w : Setting) (c : ℕ) (ks : List ClassSyntax) (texts : List FixedText) (q : Bodies × List FixedText) → bodies_from w c ks texts ≡ Ok q → length q.0.initializers ≡ length ks
unfolding bodies_from
initializers_as_many w c [] texts q e = ap (λ (y : Bodies × List FixedText). length y.0.initializers) (sym (one_found (no_bodies, texts) q _ refl e))
initializers_as_many w c (k ∷ rest) texts q e =
    let a = found_on (λ x. bodies_from w (suc c) rest >>= λ xs. meaning.give (and_more x xs)) (class_bodies w c k texts) q e in
    let d = found_on (λ xs. meaning.give (and_more a.0.0 xs)) (bodies_from w (suc c) rest a.0.1) q a.2 in
    let more : length d.0.0.initializers ≡ length rest = initializers_as_many w (suc c) rest a.0.1 d.0 d.1 in
    ap (λ (y : Bodies × List FixedText). length y.0.initializers) (sym (one_found (and_more a.0.0 d.0.0, d.0.1) q _ refl d.2)) ∙ ap suc more

-- ---- programs

library_initializers : length library_init_bodies ≡ 18
unfolding library_init_bodies builtin.classes
library_initializers = refl

library_places : length library_bodies ≡ length builtin.methods
unfolding builtin.methods builtin.first_methods library_bodies
library_places = refl

pub initializers_have_places : InitializersHavePlaces
initializers_have_places unit tokens p h =
    let c = comes unit tokens p h in
    let all : length c.made.bodies.initializers ≡ length (classes_of unit) = initializers_as_many _ first_source_class (classes_of unit) (in_order c.made.first.1) (c.made.bodies, c.made.texts) c.made.made in
    let P : Program → Type 0 = λ x. length x.init_bodies ≡ length x.classes in
    subst P c.made.is
    (length-append library_init_bodies c.made.bodies.initializers ∙ ap (λ n. n + length c.made.bodies.initializers) library_initializers ∙ ap (λ n. 18 + n) all
    ∙ sym (many_classes unit) ∙ sym (ap (λ (x : Table). length x.classes) c.is_table.rows))

pub bodies_have_places : BodiesHavePlaces
bodies_have_places unit tokens p bare h =
    let c = comes unit tokens p h in
    let rows : c.t.methods ≡ builtin.methods ++ rows_from unit first_source_class (classes_of unit) = tables_have_rows c.t unit (ap (λ (x : Table). x.methods) c.is_table.rows) in
    let all : length c.made.bodies.methods ≡ length (rows_from unit first_source_class (classes_of unit)) = all_as_many _ unit first_source_class (classes_of unit) (in_order c.made.first.1) (c.made.bodies, c.made.texts) bare c.made.made in
    let P : Program → Type 0 = λ x. length x.bodies ≡ length x.methods in
    subst P c.made.is
    (length-append library_bodies c.made.bodies.methods ∙ ap (λ n. n + length c.made.bodies.methods) library_places ∙ ap (λ n. length builtin.methods + n) all
    ∙ sym (length-append builtin.methods (rows_from unit first_source_class (classes_of unit))) ∙ sym (ap length rows))
