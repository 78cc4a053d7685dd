-- The initializers of a class: what they make fits the types of the body that they go into.
use Rattle.std.proofs.Common.{◌≡◌, ℕ, ◌+◌, ◌==◌, Bool, true, false, refl, sym, ◌∙◌, ap, subst, List, [], ◌∷◌, Option, Some, None, Result, Ok, Err, arith, inl}
use Rattle.std.specs.Prelude.{slice_get, flat_map}
use Rattle.std.specs.List.{AllByRecursion, Contains}
use Rattle.std.proofs.lemmas.Bool.{eqb-true}
use Rattle.wy_kernel.specs.declared.types.Base.{Base}
use Rattle.wy_kernel.specs.declared.types.Base.TheVariants.{Class as Named}
use Rattle.wy_kernel.specs.declared.types.Ty.{Ty}
use Rattle.wy_kernel.specs.declared.types.Ty.TheVariants.{Of}
use Rattle.wy_kernel.specs.Form as kernel
use Rattle.wy_kernel.specs.Program.{Program, Class, Field}
use Rattle.wy_kernel.specs.Subtyping.{class_type}
use Rattle.wy_kernel.specs.Table.{Table, ConstantValue}
use Rattle.wy_syntax.specs.Syntax.{Initial, WrittenType, Declarator, Braced, ClassSyntax}
use Rattle.wy_syntax.specs.Syntax as source
use Rattle.wy_constant.specs.Refusal.{Refusal}
use Rattle.wy_constant.specs.Fields.{is_field}
use Rattle.wy_elab_expr.specs.Operators.{Judgement}
use Rattle.wy_elab_expr.specs.Members.{this_form}
use Rattle.wy_elab_expr.specs.Elaboration.{initialized}
use Rattle.wy_elab_body.specs.declared.place.Place.{Place}
use Rattle.wy_elab_body.specs.declared.place.Role.{Role}
use Rattle.wy_elab_body.specs.Places.{at, number_at, written, block_places}
use Rattle.wy_elab_body.specs.Making.{Making, Makes, give, ◌>>=◌, expressed, each}
use Rattle.wy_elab_body.specs.Parts.{NoReturn}
use Rattle.wy_elab_body.specs.Jumps.{alone}
use Rattle.wy_elab_body.specs.Statements.{Setting, plain, block}
use Rattle.wy_elab_body.specs.Bodies.{declared_type, around_initializer, own_place, or_zero, field_number, assigned_first, field_initial, field_initials, initializer_block}
use Rattle.wy_typing.specs.Expressions as typing
use Rattle.wy_typing.specs.Expressions.{HasType, Gives, IsPlace}
use Rattle.wy_typing.specs.Statements.{Within, IsNumbered, IsTyped}
use Rattle.wy_typing.specs.Programs.{IsTypeIn}
use Rattle.law_typed.specs.ExpressionsTyped.{table_of}
use Rattle.law_typed.proofs.Bringing.{the_same, both_true}
use Rattle.law_typed.proofs.Finding.{found_at}
use Rattle.law_typed.proofs.Inducting.{initial}
use Rattle.law_typed.proofs.Sequence as found
use Rattle.law_typed.specs.StatementsTyped.{setting, Makes as MakesProgram, AreAmong}
use Rattle.law_typed.specs.Bodies.{BaseDenotes, Denotes, IsDeclared}
use Rattle.law_typed.specs.StatementsWritten.{OptionWritten, BlockWritten}
use Rattle.law_typed.proofs.Steps as steps
use Rattle.law_typed.proofs.Steps.{Sure}
use Rattle.law_typed.proofs.Numbers.{number_below}
use Rattle.law_typed.proofs.Stating as stating
use Rattle.law_typed.proofs.Embodying as whole
use Rattle.law_typed.proofs.Constructing.{all_joined}

-- a type is written in one way
base_one : (classes : List Class) (base : source.Base) (a b : Base) → BaseDenotes classes base a → BaseDenotes classes base b → a ≡ b
base_one classes (source.Basic q) a b h k = h ∙ sym k
base_one classes (source.Class name) a b h k = h.2 ∙ ap (λ x. Named x) (the_same (sym h.1 ∙ k.1)) ∙ sym k.2

pub denotes_one : (classes : List Class) (ty : WrittenType) (more : ℕ) (x y : Ty) → Denotes classes ty more x → Denotes classes ty more y → x ≡ y
denotes_one classes ty more x y h k = h.2 ∙ ap (λ b. Of b (ty.brackets + more)) (base_one classes ty.base h.0 k.0 h.1 k.1) ∙ sym k.2

all_flat : {X : Type 0} (P : X → Type 0) (xss : List (List X)) → AllByRecursion (AllByRecursion P) xss → AllByRecursion P (flat_map (λ xs. xs) xss)
all_flat P [] h = tt
all_flat P (xs ∷ xss) h = all_joined P xs (flat_map (λ ys. ys) xss) h.0 (all_flat P xss h.1)

abbrev pub is_some_initial : Option Initial → Type 0
is_some_initial None = ⊥
is_some_initial (Some i) = Unit {0}

module _ (p : Program) (constants : List (Option ConstantValue)) (j : Judgement) (all : List Place) (L : List Ty) (c : ℕ) (has_this : Bool) (made : MakesProgram p constants j all) where
  abbrev T : Table
  T = table_of p constants

  abbrev w : Setting
  w = setting p constants j all

  abbrev pub W : Within
  W = stating.W p constants j all L c has_this NoReturn made tt

  abbrev Surely : {A : Type 0} → Type 0 → (A → Type 0) → Type 0 → (A → Type 0) → Makes A → Type 0
  Surely K R H Q f = Sure p constants j L c has_this K R H Q f

  abbrev pub AllSo : List kernel.Statement → Type 0
  AllSo xs = AllByRecursion (IsTyped W) xs

  abbrev Said : {A : Type 0} → (A → Type 0) → Result (A × Making) Refusal → Type 0
  Said S (Ok q) = S q.0
  Said S (Err e) = Unit {0}

  also_after : {A : Type 0} (R S : A → Type 0) (m : Making) (r : Result (A × Making) Refusal) → steps.After p constants j L c has_this R m r → Said S r → steps.After p constants j L c has_this (λ x. R x × S x) m r
  also_after R S m (Ok q) h k = (h.0, h.1, (h.2, k))
  also_after R S m (Err e) h k = tt

  also : {A : Type 0} {K H : Type 0} (R S : A → Type 0) {Q : A → Type 0} (f : Makes A) → Surely K R H Q f → ((m : Making) → Said S (f m)) → Surely K (λ x. R x × S x) H Q f
  also R S f h k = record { keeps = λ y m i. also_after R S m (f m) (h.keeps y m i) (k m); grows = h.grows; finds = h.finds }

  said_by : (ty : WrittenType) (more : ℕ) (m : Making) (r : Result (Ty × Making) Refusal) → declared_type w ty more m ≡ r → Said (Denotes p.classes ty more) r
  said_by ty more m (Ok q) e = (whole.type_declared p constants j all made ty more m q e).0
  said_by ty more m (Err x) e = tt

  -- the type of a field, as it is written
  type_said : {K H : Type 0} (ty : WrittenType) (more : ℕ) → Surely K (λ x. IsTypeIn p x × Denotes p.classes ty more x) H (λ y. Unit {0}) (declared_type w ty more)
  type_said ty more = also (IsTypeIn p) (Denotes p.classes ty more) (declared_type w ty more) (whole.declared_sure p constants j all made L c has_this ty more) (λ m. said_by ty more m (declared_type w ty more m) refl)

  -- ---- the variable that a field is in its own initializer

  own_by : (is_static : Bool) (f : Field) (k : ℕ) (token : ℕ) → slice_get p.fields k ≡ Some f → f.is_static ≡ is_static → f.class ≡ c → (is_static ≡ false → HasType p L this_form (class_type c)) → IsPlace p L (own_place is_static k token) f.ty
  own_by true f k token e s is h = typing.static e s
  own_by false f k token e s is h = let P : ℕ → Type 0 = λ x. HasType p L this_form (class_type x) in typing.field e s (typing.fitting (subst P (sym is) (h refl)) (inl refl))

  own_typed : (is_static : Bool) (ty : WrittenType) (d : Declarator) (t : Ty) → IsDeclared p c is_static ty d → Denotes p.classes ty d.brackets t → (is_static ≡ false → HasType p L this_form (class_type c)) → IsPlace p L (own_place is_static (field_number w c d.name.name) d.name.token) t
  own_typed is_static ty d t f denotes h =
      let P : Option ℕ → Type 0 = λ o. IsPlace p L (own_place is_static (or_zero o) d.name.token) t in
      let Q : Ty → Type 0 = λ x. IsPlace p L (own_place is_static f.number d.name.token) x in
      let passes = (found_at (is_field c d.name.name) p.fields f.number f.first).passes f.field f.found in
      let own : f.field.class ≡ c = eqb-true f.field.class c (both_true (f.field.class == c) _ passes).0 in
      subst P (sym f.first) (subst Q (denotes_one p.classes ty d.brackets f.field.ty t f.type denotes) (own_by is_static f.field f.number d.name.token f.found f.static own h))

  -- ---- fields with initializers

  abbrev HasThis : Bool → Type 0
  HasThis is_static = is_static ≡ false → has_this ≡ true

  abbrev IsGiven : Bool → Ty → kernel.Expression → Type 0
  IsGiven is_static t e = Gives p L e t × (is_static ≡ false → HasType p L this_form (class_type c))

  abbrev first_act : Bool → Declarator → kernel.Expression → kernel.Act
  first_act is_static d e = kernel.Eval (kernel.Set (own_place is_static (field_number w c d.name.name) d.name.token) e d.name.token)

  first_sure : {K H : Type 0} (is_static : Bool) (ty : WrittenType) (d : Declarator) (t : Ty) (i : Initial) → HasThis is_static → IsDeclared p c is_static ty d → Contains all (written d.name.token) → OptionWritten (Some i) → (K → IsTypeIn p t × Denotes p.classes ty d.brackets t) →
      Surely K (λ y. Unit {0}) H (IsTyped W) (assigned_first w c is_static t d.name i)
  first_sure {K} {H} is_static ty d t i this f place ok k =
      steps.next p constants j L c has_this (λ y. Unit {0}) (λ e. K × IsGiven is_static t e) (expressed (λ s. initialized j T s t i d.name.token))
      (λ e. give (plain w d.name.token true (kernel.Eval (kernel.Set (own_place is_static (field_number w c d.name.name) d.name.token) e d.name.token))))
      (stating.part_sure p constants j all L c has_this NoReturn made tt (λ e. K × IsGiven is_static t e) (λ s. initialized j T s t i d.name.token)
      (λ s g is with_this. found.so (λ e. Gives p L e t) (λ e. K × IsGiven is_static t e) (initialized j T s t i d.name.token) (found.under (λ e. Gives p L e t) (initialized j T s t i d.name.token) (λ h. (k h.0).0) (initial p constants j L s g t i d.name.token ok))
      (λ h e u. (h.0, (u, λ e2. (let P : ℕ → Type 0 = λ x. HasType p L this_form (class_type x) in subst P is (typing.read (typing.local (g.scope.own (with_this ∙ this e2))))))))))
      (λ e. steps.given p constants j L c has_this (plain w d.name.token true (first_act is_static d e)) (λ y. tt)
      (λ y h. stating.plain_typed p constants j all L c has_this NoReturn made tt d.name.token true (first_act is_static d e) place
      (t, typing.assigned (own_typed is_static ty d t f (k h.1.0).1 h.1.1.1) h.1.1.0)))

  initial_sure : {K H : Type 0} (is_static : Bool) (ty : WrittenType) (d : Declarator) (o : Option Initial) → HasThis is_static → IsDeclared p c is_static ty d → (is_some_initial o → Contains all (written d.name.token)) → OptionWritten o → Surely K (λ y. Unit {0}) H AllSo (field_initial w c is_static ty d o)
  initial_sure is_static ty d None this f place ok = steps.given p constants j L c has_this [] (λ y. tt) (λ y h. tt)
  initial_sure is_static ty d (Some i) this f place ok =
      steps.next p constants j L c has_this (λ x. IsTypeIn p x × Denotes p.classes ty d.brackets x) (λ y. Unit {0}) (declared_type w ty d.brackets) (λ t. assigned_first w c is_static t d.name i >>= λ x. give (x ∷ [])) (type_said ty d.brackets)
      (λ t. steps.next p constants j L c has_this (λ y. Unit {0}) (IsTyped W) (assigned_first w c is_static t d.name i) (λ x. give (x ∷ [])) (first_sure is_static ty d t i this f (place tt) ok (λ y. y.1))
      (λ x. steps.given p constants j L c has_this (x ∷ []) (λ y. tt) (λ y h. (h.1, tt))))

  -- each declarator with an initializer has a place
  abbrev pub PlacesOf : List Declarator → Type 0
  PlacesOf ds = AllByRecursion (λ (d : Declarator). is_some_initial d.initial → Contains all (written d.name.token)) ds

  abbrev pub FieldsOf : Bool → WrittenType → List Declarator → Type 0
  FieldsOf is_static ty ds = AllByRecursion (IsDeclared p c is_static ty) ds

  pub initials_sure : {K H : Type 0} (is_static : Bool) (ty : WrittenType) (ds : List Declarator) → HasThis is_static → FieldsOf is_static ty ds → PlacesOf ds → AllByRecursion (λ (d : Declarator). OptionWritten d.initial) ds →
      Surely K (λ y. Unit {0}) H AllSo (field_initials w c is_static ty ds)
  unfolding field_initials
  initials_sure is_static ty ds this fields places ok =
      steps.next p constants j L c has_this (λ xss. AllByRecursion (λ y. Unit {0}) xss) (λ xss. AllByRecursion AllSo xss) (each (λ d. field_initial w c is_static ty d d.initial) ds) (λ xss. give (flat_map (λ xs. xs) xss))
      (steps.each_sure p constants j L c has_this (λ y. Unit {0}) AllSo (λ d. field_initial w c is_static ty d d.initial) ds
      (λ d here. initial_sure is_static ty d d.initial this (stating.of_contained (IsDeclared p c is_static ty) ds d fields here)
      (stating.of_contained (λ (x : Declarator). is_some_initial x.initial → Contains all (written x.name.token)) ds d places here) (stating.of_contained (λ (x : Declarator). OptionWritten x.initial) ds d ok here)))
      (λ xss. steps.given p constants j L c has_this (flat_map (λ xs. xs) xss) (λ y. tt) (λ y h. all_flat (IsTyped W) xss h.1))

  -- ---- initializers in braces

  abbrev whole_number : ℕ → Role → ℕ
  whole_number site role = number_at all (at site role)

  at_numbered : (site : ℕ) (role : Role) → Contains all (at site role) → IsNumbered W (whole_number site role)
  at_numbered site role h = let lt = number_below all (at site role) h in omega (arith, lt, made.statements)

  pub initializer_sure : {H : Type 0} (k : ClassSyntax) (role : Role) (b : Braced) → Contains all (at k.name.token role) → AreAmong all (block_places b) → BlockWritten b → Surely Unit (λ y. Unit {0}) H AllSo (initializer_block w k role b)
  initializer_sure k role b here places ok =
      let a = alone (whole_number k.name.token role) NoReturn in
      let fits = stating.inside_fits p constants j all L c has_this NoReturn made tt a (whole_number k.name.token role) (stating.alone_fits p constants j all L c has_this NoReturn made tt (whole_number k.name.token role)) (at_numbered k.name.token role here) in
      steps.next p constants j L c has_this (λ y. Unit {0}) (IsTyped W) (block w (around_initializer w k role) b) (λ x. give (x ∷ []))
      (steps.under p constants j L c has_this (block w (around_initializer w k role) b) (λ y. tt) (λ y v. tt) (stating.blocked p constants j all L c has_this NoReturn made tt (around_initializer w k role) b fits places ok))
      (λ x. steps.given p constants j L c has_this (x ∷ []) (λ y. tt) (λ y h. (h.1, tt)))
