-- Calls and `new` have their types, where their arguments have theirs.
use Rattle.std.proofs.Common.{◌≡◌, ℕ, zero, suc, ◌<◌, ◌≤◌, ◌==◌, Bool, true, false, refl, sym, ◌∙◌, ap, subst, List, [], ◌∷◌, ◌++◌, length, Option, Some, None, Result, Ok, Err, arith, inl, inr, if◌then◌else◌, ◌&&◌, ◌||◌}
use Rattle.std.specs.Prelude.{slice_get, codes, bytes_eq}
use Rattle.std.specs.List.{AllByRecursion}
use Rattle.wy_kernel.specs.declared.types.Ty.{Ty}
use Rattle.wy_kernel.specs.declared.types.Ty.TheVariants.{Void}
use Rattle.wy_kernel.specs.declared.types.MethodForm.{MethodForm}
use Rattle.wy_kernel.specs.declared.types.MethodForm.TheVariants as kind
use Rattle.wy_kernel.specs.declared.form.CallForm.{CallForm}
use Rattle.wy_kernel.specs.declared.form.CallForm.TheVariants as call
use Rattle.wy_kernel.specs.Form.{Expression, New, Call, Lib, absent, the, Row, none, more}
use Rattle.wy_kernel.specs.Program.{Program, Class, Method, object_class}
use Rattle.wy_kernel.specs.Subtyping.{IsReference, Below, class_type, object_type}
use Rattle.wy_kernel.specs.Table.{Table, IsTypeOf, IsMethodOf, ConstantValue}
use Rattle.wy_kernel.specs.Builtin as builtin
use Rattle.wy_constant.specs.declared.rule.Rule.{Rule}
use Rattle.wy_constant.specs.declared.rule.Rule.TheVariants.{NotImplemented, NoMethod, BadOperand, Private, NotInStatic}
use Rattle.wy_constant.specs.Scope.{Scope}
use Rattle.wy_overloads.specs.Choice.{Chosen, EachBelow, DeclaredFor}
use Rattle.wy_overloads.specs.Choice as choice
use Rattle.wy_overloads.specs.Lineage.{HasTop}
use Rattle.wy_elab_expr.specs.Meaning.{Meaning, Formed, type_of, text_type, give, refuse, ◌>>=◌, brought}
use Rattle.wy_elab_expr.specs.Operators.{Judgement, is_void, class_of, is_interface}
use Rattle.wy_elab_expr.specs.Members.{this_form, is_outside, named, some_void, types_of, brought_all, of_choice, method_for, Through, Nothing, Object, OfClass, Super, is_static, broken_by, broken, receiver, call_form, call_of, called_unless, called_at, called, LibraryMethod, text_methods, value_of_methods, integer_methods, math_methods, are_below, applicable, has_name, front, library_form, library_call, constructed, is_abstract, new_plain, created}
use Rattle.wy_elab_expr.specs.Elaboration.{above}
use Rattle.wy_typing.specs.Types as types
use Rattle.wy_typing.specs.Types.{IsValueType, Fits, Offers}
use Rattle.wy_typing.specs.Expressions as typing
use Rattle.wy_typing.specs.Expressions.{HasType, Gives, GivesAll, IsPlace, IsMethod, HasBody, IsMade, MayBeCalled, IsReferenceOf}
use Rattle.law_typed.specs.ExpressionsWritten.{IsName}
use Rattle.law_typed.specs.ExpressionsTyped.{table_of, Stands, HasItsType}
use Rattle.law_typed.proofs.Bringing.{top_of, the_same, nothing_there, none_of, both_true, brings_below, not_void}
use Rattle.wy_typing.proofs.Ranges.{all_at}
use Rattle.law_typed.proofs.Operations.{below}
use Rattle.law_typed.proofs.Operating as operating
use Rattle.law_typed.proofs.Ranges.{type_known}
use Rattle.law_typed.proofs.Sequence.{Sound, next, given, none_found, under, if_either}
use Rattle.law_typed.proofs.Naming as naming

both_false : (a b : Bool) → a || b ≡ false → (a ≡ false) × (b ≡ false)
both_false false b e = (refl, e)
both_false true b e = absurd (cc)

first_below : {classes : List Class} {a b : Ty} {rest others : List Ty} → EachBelow classes (a ∷ rest) (b ∷ others) → Below classes a b
first_below (choice.more le h) = le

rest_below : {classes : List Class} {a b : Ty} {rest others : List Ty} → EachBelow classes (a ∷ rest) (b ∷ others) → EachBelow classes rest others
rest_below (choice.more le h) = h

none_below : {A : Type 0} {classes : List Class} {b : Ty} {others : List Ty} → EachBelow classes [] (b ∷ others) → A
none_below h = elim h [ ]

no_rule : {R : Type 0} (x : Bool) (r : R) (o : Option R) → (if x then Some r else o) ≡ None → (x ≡ false) × (o ≡ None)
no_rule true r o e = absurd (cc)
no_rule false r o e = (refl, e)

has_rule : {R : Type 0} (x : Bool) (r : R) (o : Option R) → (if x then o else Some r) ≡ None → (x ≡ true) × (o ≡ None)
has_rule true r o e = (refl, e)
has_rule false r o e = absurd (cc)

module _ (p : Program) (constants : List (Option ConstantValue)) (j : Judgement) (locals : List Ty) (s : Scope) (g : Stands p constants j locals s) where
  abbrev T : Table
  T = table_of p constants

  abbrev n : ℕ
  n = length p.fixed_texts

  abbrev Fit : Meaning → Type 0
  Fit = operating.Fit p constants j locals s g

  abbrev Has : Ty → Expression → Type 0
  Has ty e = HasType p locals e ty

  abbrev GivesRow : List Ty → Row → Type 0
  GivesRow tys r = GivesAll p locals r tys

  top : HasTop p.classes
  top = top_of T g.table

  its : (e : Expression) (ty : Ty) → Has ty e → HasItsType p locals e ty
  its e ty h = (ty, h, inl refl)

  -- ---- arguments

  abbrev pub AllFit : List Meaning → Type 0
  AllFit [] = Unit {0}
  AllFit (m ∷ ms) = Fit m × AllFit ms

  pub record AreTaken (ms : List Meaning) (ps : List Ty) : Type 0 where
    pub fit : AllFit ms
    pub takes : EachBelow p.classes (types_of ms) ps
    pub values : some_void ms ≡ false

  first_taken : (q : Ty) (qs : List Ty) (m : Meaning) (ms : List Meaning) → AreTaken (m ∷ ms) (q ∷ qs) → Fit m × operating.IsTaken p constants j locals s g q m
  first_taken q qs m ms h = (h.fit.0, (not_void (type_of m) (both_false (is_void (type_of m)) (some_void ms) h.values).0, inl (brings_below p.classes top (first_below h.takes))))

  rest_taken : (q : Ty) (qs : List Ty) (m : Meaning) (ms : List Meaning) → AreTaken (m ∷ ms) (q ∷ qs) → AreTaken ms qs
  rest_taken q qs m ms h = record { fit = h.fit.1; takes = rest_below h.takes; values = (both_false (is_void (type_of m)) (some_void ms) h.values).1 }

  pub arguments_sound : (ps : List Ty) (ms : List Meaning) → Sound n (AreTaken ms ps) (GivesRow ps) (brought_all ps ms)
  unfolding brought_all
  arguments_sound [] [] = given (GivesRow []) none (λ h. typing.nothing)
  arguments_sound [] (m ∷ ms) = given (GivesRow []) none (λ h. typing.nothing)
  arguments_sound (q ∷ qs) [] = given (GivesRow (q ∷ qs)) none (λ h. none_below h.takes)
  arguments_sound (q ∷ qs) (m ∷ ms) =
      next (λ x. Gives p locals x q) (brought q m) (λ x. brought_all qs ms >>= λ xs. give (more x xs))
      (operating.brought_sound p constants j locals s g q m (first_taken q qs m ms))
      (λ x. next (GivesRow qs) (brought_all qs ms) (λ xs. give (more x xs))
      (under (GivesRow qs) (brought_all qs ms) (λ h. rest_taken q qs m ms h.0) (arguments_sound qs ms))
      (λ xs. given (GivesRow (q ∷ qs)) (more x xs) (λ h. typing.and_more h.0.1 h.1)))

  -- what is known of a method that is chosen
  abbrev pub IsFor : Ty → List ℕ → List Meaning → ℕ → Type 0
  IsFor ty name ms k = Chosen T ty name (types_of ms) k × (some_void ms ≡ false)

  chosen_sound : {H : Type 0} (ty : Ty) (name : List ℕ) (ms : List Meaning) (token : ℕ) (r : Result ℕ Rule) → j.choice ty name (types_of ms) ≡ r → some_void ms ≡ false → Sound n H (IsFor ty name ms) (of_choice r token)
  chosen_sound ty name ms token (Ok k) e v = given (IsFor ty name ms) k (λ u. ((g.settled.chosen ty name (types_of ms) k).0 e, v))
  chosen_sound ty name ms token (Err rule) e v = none_found (IsFor ty name ms) rule token

  pub method_sound : {H : Type 0} (ty : Ty) (name : List ℕ) (ms : List Meaning) (token : ℕ) → Sound n H (IsFor ty name ms) (method_for j ty name ms token)
  unfolding method_for
  method_sound ty name ms token = if_either (IsFor ty name ms) (some_void ms) _ _ (λ e. none_found (IsFor ty name ms) BadOperand token) (λ e. chosen_sound ty name ms token (j.choice ty name (types_of ms)) refl e)

  -- ---- calls

  -- through what a call of a method of the type goes
  abbrev pub Receives : Through → Ty → Type 0
  Receives Nothing ty = ty ≡ class_type s.class
  Receives (Object e) ty = Has ty e
  Receives OfClass ty = Unit {0}
  Receives Super ty = ty ≡ class_type (above T s)

  body_of : (k : ℕ) (m : Method) → IsMethod p k m → m.is_abstract ≡ false → HasBody p k
  body_of k m is e = g.methods.bodies k m is e

  this_typed : s.has_this ≡ true → Has (class_type s.class) this_form
  this_typed e = typing.read (typing.local (g.scope.own e))

  this_known : s.has_this ≡ true → IsTypeOf (length p.classes) (class_type s.class)
  this_known e = type_known p constants g.table locals g.known (this_typed e)

  private_by : (k : ℕ) (m : Method) (b : Bool) → IsMethod p k m → m.is_private ≡ b → MayBeCalled p (if b then call.Direct else call.Chosen) k m
  private_by k m true is e = body_of k m is (g.methods.never_abstract k m is (inr (inr e)))
  private_by k m false is e = e

  called_on : (form : CallForm) (k : ℕ) (m : Method) (r : Expression) (ty : Ty) (es : Row) (token : ℕ) → IsMethod p k m → m.form ≡ kind.Instance → MayBeCalled p form k m → IsReference ty → Below p.classes ty (class_type m.class) →
      Gives p locals r ty → IsTypeOf (length p.classes) ty → GivesRow m.params es → Has m.result (Call form k (the r) ty es token)
  called_on form k m r ty es token is f may ref le gives known args = typing.called_on is f may gives (ref, known) (inr (tt, le)) args

  instance_call : (through : Through) (k : ℕ) (m : Method) (ty : Ty) (es : Row) (token : ℕ) → IsMethod p k m → m.form ≡ kind.Instance → IsReference ty → Below p.classes ty (class_type m.class) → Receives through ty →
      broken_by s through false m.is_abstract ≡ None → GivesRow m.params es → Has m.result (Call (call_form through m) k (receiver through) ty es token)
  instance_call Nothing k m ty es token is f ref le h e args =
      let u = has_rule s.has_this NotInStatic None e in
      let P : Ty → Type 0 = λ y. IsTypeOf (length p.classes) y in let Q : Ty → Type 0 = λ y. Gives p locals this_form y in
      called_on _ k m this_form ty es token is f (private_by k m m.is_private is refl) ref le
      (subst Q (sym h) (typing.fitting (this_typed u.0) (inl refl))) (subst P (sym h) (this_known u.0)) args
  instance_call OfClass k m ty es token is f ref le h e args = absurd (cc)
  instance_call (Object x) k m ty es token is f ref le h e args =
      called_on _ k m x ty es token is f (private_by k m m.is_private is refl) ref le (typing.fitting h (inl refl)) (type_known p constants g.table locals g.known h) args
  instance_call Super k m ty es token is f ref le h e args =
      let u = has_rule s.has_this NotInStatic (if m.is_abstract then Some NotImplemented else None) e in
      let v = no_rule m.is_abstract NotImplemented None u.1 in
      let up = naming.above_is p constants j locals s g in
      let P : Ty → Type 0 = λ y. IsTypeOf (length p.classes) y in let Q : Ty → Type 0 = λ y. Gives p locals this_form y in
      called_on _ k m this_form ty es token is f (body_of k m is v.0) ref le
      (subst Q (sym h) (typing.fitting (this_typed u.0) (inr (tt, up.0)))) (subst P (sym h) up.1) args

  call_by : (through : Through) (k : ℕ) (m : Method) (ty : Ty) (name : List ℕ) (es : Row) (token : ℕ) (form : MethodForm) → IsMethod p k m → m.form ≡ form → m.name ≡ name → IsName name → DeclaredFor p.classes ty m.class form → Receives through ty →
      broken_by s through (is_static form) m.is_abstract ≡ None → GivesRow m.params es →
      Has m.result (if is_static form then Call call.Static k absent Void es token else Call (call_form through m) k (receiver through) ty es token)
  call_by through k m ty name es token kind.Static is f named ok d h e args = typing.called is f (body_of k m is (g.methods.never_abstract k m is (inr (inl f)))) args
  call_by through k m ty name es token kind.Instance is f named ok d h e args = instance_call through k m ty es token is f d.0 d.1 h e args
  call_by through k m ty name es token kind.Constructor is f named ok d h e args = absurd (ok (sym named ∙ (g.methods.constructors k m is).1 f))
  call_by through k m ty name es token kind.Fields is f named ok d h e args = absurd d

  call_typed : (through : Through) (k : ℕ) (m : Method) (ty : Ty) (name : List ℕ) (es : Row) (token : ℕ) → IsMethod p k m → m.name ≡ name → IsName name → DeclaredFor p.classes ty m.class m.form → Receives through ty → broken s through m ≡ None →
      GivesRow m.params es → Has m.result (call_of through k m ty es token)
  call_typed through k m ty name es token is named ok d h e args =
      let u = no_rule (is_outside s m.is_private m.class) Private (broken_by s through (is_static m.form) m.is_abstract) e in
      call_by through k m ty name es token m.form is refl named ok d h u.1 args

  -- the method takes the arguments
  abbrev Takes : Ty → List ℕ → List Meaning → Method → Type 0
  Takes ty name ms m = choice.Applies p.classes ty name (types_of ms) m × (some_void ms ≡ false)

  unless_sound : (through : Through) (k : ℕ) (m : Method) (ty : Ty) (name : List ℕ) (ms : List Meaning) (token : ℕ) (o : Option Rule) → IsMethod p k m → IsName name → broken s through m ≡ o →
      Sound n ((AllFit ms × Receives through ty) × Takes ty name ms m) Fit (called_unless o through k m ty ms token)
  unless_sound through k m ty name ms token (Some rule) is ok e = none_found Fit rule token
  unless_sound through k m ty name ms token None is ok e =
      next (GivesRow m.params) (brought_all m.params ms) (λ es. give (Formed (call_of through k m ty es token) m.result))
      (under (GivesRow m.params) (brought_all m.params ms) (λ h. record { fit = h.0.0; takes = h.1.0.takes; values = h.1.1 }) (arguments_sound m.params ms))
      (λ es. given Fit (Formed (call_of through k m ty es token) m.result)
      (λ h. its _ m.result (call_typed through k m ty name es token is h.0.1.0.member.named ok h.0.1.0.member.declared h.0.0.1 e h.1)))

  takes_of : (ty : Ty) (name : List ℕ) (ms : List Meaning) (k : ℕ) (m : Method) → slice_get p.methods k ≡ Some m → IsFor ty name ms k → Takes ty name ms m
  takes_of ty name ms k m e h =
      let P : Method → Type 0 = λ x. choice.Applies p.classes ty name (types_of ms) x in
      (subst P (the_same (sym h.0.applicable.0 ∙ e)) h.0.applicable.1, h.1)

  at_sound : (through : Through) (k : ℕ) (o : Option Method) (ty : Ty) (name : List ℕ) (ms : List Meaning) (token : ℕ) → slice_get p.methods k ≡ o → IsName name →
      Sound n ((AllFit ms × Receives through ty) × IsFor ty name ms k) Fit (called_at s through k o ty ms token)
  at_sound through k None ty name ms token e ok = none_found Fit NoMethod token
  at_sound through k (Some m) ty name ms token e ok =
      under Fit (called_unless (broken s through m) through k m ty ms token) (λ h. (h.0, takes_of ty name ms k m e h.1)) (unless_sound through k m ty name ms token (broken s through m) e ok refl)

  -- a call of a method of the type
  pub called_sound : (through : Through) (ty : Ty) (name : List ℕ) (ms : List Meaning) (token : ℕ) → IsName name → Sound n (AllFit ms × Receives through ty) Fit (called j T s through ty name ms token)
  unfolding called
  called_sound through ty name ms token ok =
      next (IsFor ty name ms) (method_for j ty name ms token) (λ k. called_at s through k (slice_get T.methods k) ty ms token) (method_sound ty name ms token)
      (λ k. at_sound through k (slice_get p.methods k) ty name ms token refl ok)

  -- ---- the library

  abbrev OffersAll : List Ty → List LibraryMethod → Type 0
  OffersAll before methods = AllByRecursion (λ (m : LibraryMethod). Offers m.op (before ++ m.params) m.outcome) methods

  pub text_offered : OffersAll (text_type ∷ []) text_methods
  unfolding text_methods
  text_offered = (types.length, (types.is_empty, (types.char_at, (types.part_from, (types.part, (types.same, (types.compare, (types.itself, tt))))))))

  pub value_of_offered : OffersAll [] value_of_methods
  unfolding value_of_methods
  value_of_offered = (types.char_text, (types.int_value, (types.long_text, (types.boolean_text, tt))))

  pub integer_offered : OffersAll [] integer_methods
  unfolding integer_methods
  integer_offered = (types.parse_int, (types.int_text, tt))

  pub math_offered : OffersAll [] math_methods
  unfolding math_methods
  math_offered = (types.abs_int, (types.abs_long, (types.max_int, (types.max_long, (types.min_int, (types.min_long, tt))))))

  each_below : (as_ ps : List Ty) → are_below j as_ ps ≡ true → EachBelow p.classes as_ ps
  each_below [] [] e = choice.none
  each_below [] (q ∷ qs) e = none_of e
  each_below (a ∷ as_) [] e = none_of e
  each_below (a ∷ as_) (q ∷ qs) e = let h = both_true (j.below a q) _ e in choice.more (below T j g.settled a q h.0) (each_below as_ qs h.1)

  abbrev IsOffered : List Ty → List Ty → LibraryMethod → Type 0
  IsOffered before tys m = Offers m.op (before ++ m.params) m.outcome × EachBelow p.classes tys m.params

  offered_by : (before tys : List Ty) (x m : LibraryMethod) (rest : Option LibraryMethod) (b : Bool) → (b ≡ true → are_below j tys x.params ≡ true) → Offers x.op (before ++ x.params) x.outcome → (if b then Some x else rest) ≡ Some m → (rest ≡ Some m → IsOffered before tys m) → IsOffered before tys m
  offered_by before tys x m rest true h o e k = subst (λ (y : LibraryMethod). IsOffered before tys y) (the_same e) (o, each_below tys x.params (h refl))
  offered_by before tys x m rest false h o e k = k e

  is_offered : (before : List Ty) (methods : List LibraryMethod) (name : List ℕ) (tys : List Ty) (m : LibraryMethod) → OffersAll before methods → applicable j methods name tys ≡ Some m → IsOffered before tys m
  is_offered before [] name tys m o e = nothing_there e
  is_offered before (x ∷ xs) name tys m o e =
      offered_by before tys x m (applicable j xs name tys) (bytes_eq x.name name && are_below j tys x.params) (λ h. (both_true (bytes_eq x.name name) _ h).1) o.0 e (is_offered before xs name tys m o.1)

  -- the receiver before the arguments
  abbrev pub Precedes : Option Expression → List Ty → Type 0
  Precedes None before = before ≡ []
  Precedes (Some e) before = (ty : Ty) × (before ≡ ty ∷ []) × Has ty e

  behind_front : (object : Option Expression) (before params : List Ty) (es : Row) → Precedes object before → GivesRow params es → GivesRow (before ++ params) (front object es)
  behind_front None before params es h k = let P : List Ty → Type 0 = λ x. GivesRow (x ++ params) es in subst P (sym h) k
  behind_front (Some e) before params es h k = let P : List Ty → Type 0 = λ x. GivesRow (x ++ params) (more e es) in subst P (sym h.1) (typing.and_more (typing.fitting h.2 (inl refl)) k)

  form_sound : (before : List Ty) (object : Option Expression) (ms : List Meaning) (token : ℕ) (offered : Bool) (o : Option LibraryMethod) → some_void ms ≡ false → ((m : LibraryMethod) → o ≡ Some m → IsOffered before (types_of ms) m) →
      Sound n (AllFit ms × Precedes object before) Fit (library_form o offered object ms token)
  form_sound before object ms token offered None v h = none_found Fit _ token
  form_sound before object ms token offered (Some m) v h =
      let k = h m refl in
      next (GivesRow m.params) (brought_all m.params ms) (λ es. give (Formed (Lib m.op (front object es) token) m.outcome))
      (under (GivesRow m.params) (brought_all m.params ms) (λ u. record { fit = u.0; takes = k.1; values = v }) (arguments_sound m.params ms))
      (λ es. given Fit (Formed (Lib m.op (front object es) token) m.outcome) (λ u. its _ m.outcome (typing.offered k.0 (behind_front object before m.params es u.0.1 u.1))))

  pub library_sound : (before : List Ty) (methods : List LibraryMethod) (object : Option Expression) (name : List ℕ) (ms : List Meaning) (token : ℕ) → OffersAll before methods → Sound n (AllFit ms × Precedes object before) Fit (library_call j methods object name ms token)
  unfolding library_call
  library_sound before methods object name ms token o =
      if_either Fit (some_void ms) _ _ (λ e. none_found Fit BadOperand token)
      (λ e. form_sound before object ms token (has_name methods name) (applicable j methods name (types_of ms)) e (λ m is. is_offered before methods name (types_of ms) m o is))

  -- ---- `new`

  no_row : {X : Type 0} (xs : List X) (c : ℕ) → slice_get xs c ≡ None → length xs ≤ c
  no_row [] c e = omega arith
  no_row (x ∷ xs) zero e = let no : ⊥ = cc in absurd no
  no_row (x ∷ xs) (suc c) e = let i : length xs ≤ c = no_row xs c e in omega arith

  made_by : (c : ℕ) (o : Option Class) → slice_get p.classes c ≡ o → c < length p.classes → is_interface o ≡ false → is_abstract o ≡ false → IsMade p c
  made_by c (Some k) is lt e f = (k, is, e, f)
  made_by c None is lt e f = absurd (omega (arith, no_row p.classes c is, lt))

  object_first : (rest : List Class) → slice_get (builtin.classes ++ rest) object_class ≡ Some (builtin.extending None (codes "Object"))
  unfolding builtin.classes
  object_first rest = refl

  object_made : IsMade p object_class
  object_made = (builtin.extending None (codes "Object"), ap (λ (cs : List Class). slice_get cs object_class) g.table.library_classes.1 ∙ object_first g.table.library_classes.0, refl, refl)

  plain_sound : (ms : List Meaning) (token : ℕ) → Sound n (AllFit ms) Fit (new_plain ms token)
  plain_sound [] token = given Fit (Formed (New object_class None none token) object_type) (λ h. its _ object_type (typing.made_plain object_made))
  plain_sound (m ∷ rest) token = none_found Fit _ token

  -- the constructor of the class
  pub record Constructs (c : ℕ) (k : ℕ) (m : Method) (ms : List Meaning) : Type 0 where
    pub found : IsMethod p k m
    pub form : m.form ≡ kind.Constructor
    pub own : m.class ≡ c
    pub takes : EachBelow p.classes (types_of ms) m.params
    pub values : some_void ms ≡ false

  declared_class : (c : ℕ) (m : Method) (form : MethodForm) → form ≡ kind.Constructor → DeclaredFor p.classes (class_type c) m.class form → m.class ≡ c
  declared_class c m form e d =
      let P : MethodForm → Type 0 = λ x. DeclaredFor p.classes (class_type c) m.class x in
      let is : class_type c ≡ class_type m.class = subst P e d in named_class c m.class is
    where
      named_class : (a b : ℕ) → class_type a ≡ class_type b → b ≡ a
      named_class a b e = cc

  pub constructs : (c k : ℕ) (m : Method) (ms : List Meaning) → slice_get p.methods k ≡ Some m → IsFor (class_type c) (codes "new") ms k → Constructs c k m ms
  constructs c k m ms e h =
      let t = takes_of (class_type c) (codes "new") ms k m e h in
      let form = (g.methods.constructors k m e).0 t.0.member.named in
      record { found = e; form = form; own = declared_class c m m.form form t.0.member.declared; takes = t.0.takes; values = t.1 }

  class_in : (c k : ℕ) (m : Method) (ms : List Meaning) → Constructs c k m ms → c < length p.classes
  class_in c k m ms h =
      let lt : m.class < length p.classes = (all_at (IsMethodOf (length p.classes)) p.methods k m g.table.methods_in_range h.found).class in subst (λ x. x < length p.classes) h.own lt

  pub constructor_body : (c k : ℕ) (m : Method) (ms : List Meaning) → Constructs c k m ms → HasBody p k
  constructor_body c k m ms h = body_of k m h.found (g.methods.never_abstract k m h.found (inl (inl h.form)))

  constructed_by : (c k : ℕ) (m : Method) (ms : List Meaning) (token : ℕ) (x y : Bool) → is_interface (slice_get p.classes c) ≡ false → is_abstract (slice_get p.classes c) ≡ y →
      Sound n (AllFit ms × Constructs c k m ms) Fit (if x then refuse Private token else (if y then refuse NotImplemented token else (brought_all m.params ms >>= λ es. give (Formed (New c (Some k) es token) (class_type c)))))
  constructed_by c k m ms token true y e f = none_found Fit Private token
  constructed_by c k m ms token false true e f = none_found Fit NotImplemented token
  constructed_by c k m ms token false false e f =
      next (GivesRow m.params) (brought_all m.params ms) (λ es. give (Formed (New c (Some k) es token) (class_type c)))
      (under (GivesRow m.params) (brought_all m.params ms) (λ h. record { fit = h.0; takes = h.1.takes; values = h.1.values }) (arguments_sound m.params ms))
      (λ es. given Fit (Formed (New c (Some k) es token) (class_type c))
      (λ h. (let u = h.0.1 in its _ (class_type c) (typing.made (made_by c (slice_get p.classes c) refl (class_in c k m ms u) e f) u.found u.form u.own (constructor_body c k m ms u) h.1))))

  constructed_sound : (c k : ℕ) (o : Option Method) (ms : List Meaning) (token : ℕ) → slice_get p.methods k ≡ o → is_interface (slice_get p.classes c) ≡ false →
      Sound n (AllFit ms × IsFor (class_type c) (codes "new") ms k) Fit (constructed s c (is_abstract (slice_get p.classes c)) k o ms token)
  constructed_sound c k None ms token e f = none_found Fit NoMethod token
  constructed_sound c k (Some m) ms token e f =
      under Fit _ (λ h. (h.0, constructs c k m ms e h.1)) (constructed_by c k m ms token (is_outside s m.is_private m.class) (is_abstract (slice_get p.classes c)) f refl)

  pub created_sound : (c : ℕ) (ms : List Meaning) (token : ℕ) → Sound n (AllFit ms) Fit (created j T s c ms token)
  unfolding created
  created_sound c ms token =
      if_either Fit (c == object_class) _ _ (λ e. plain_sound ms token)
      (λ e. if_either Fit (is_interface (class_of T c)) _ _
      (λ f. if_either Fit (some_void ms) _ _ (λ x. none_found Fit BadOperand token) (λ x. none_found Fit NotImplemented token))
      (λ f. next (IsFor (class_type c) (codes "new") ms) (method_for j (class_type c) (codes "new") ms token) (λ k. constructed s c (is_abstract (class_of T c)) k (slice_get T.methods k) ms token)
      (method_sound (class_type c) (codes "new") ms token)
      (λ k. constructed_sound c k (slice_get p.methods k) ms token refl f)))
