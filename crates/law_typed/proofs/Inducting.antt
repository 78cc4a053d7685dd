-- Each expression becomes a form that has its type.
use Rattle.std.proofs.Common.{◌≡◌, ℕ, ◌+◌, ◌<◌, ◌≤◌, refl, sym, subst, List, [], ◌∷◌, length, Option, Some, None, Result, Ok, arith, inl, if◌then◌else◌, ◌&&◌, ◌||◌, replicate}
use Rattle.wy_kernel.specs.declared.types.Base.{Base}
use Rattle.wy_kernel.specs.declared.types.Ty.{Ty}
use Rattle.wy_kernel.specs.declared.types.Ty.TheVariants.{Of}
use Rattle.wy_kernel.specs.declared.form.CondForm.TheVariants as cond
use Rattle.wy_kernel.specs.Form as kernel
use Rattle.wy_kernel.specs.Program.{Program}
use Rattle.wy_kernel.specs.Subtyping.{class_type}
use Rattle.wy_kernel.specs.Table.{Table, IsTypeOf, ConstantValue}
use Rattle.wy_syntax.specs.Syntax.{Expression, Literal, Name, This, Group, Invoke, Field, InvokeOn, SuperField, SuperInvoke, Element, NewObject, NewArray, NewList, Unary, Step, Binary, Both, Either, InstanceOf, Cast, Choice, Assign, Update, Wrong, Row, none, more, Initial, Value, Listed, Elements, no_more, element}
use Rattle.wy_constant.specs.declared.rule.Rule.TheVariants.{UnknownName, BadOperand, NotInStatic}
use Rattle.wy_constant.specs.Scope.{Scope, FixedText}
use Rattle.wy_constant.specs.Refusal.{Refusal}
use Rattle.wy_constant.specs.Fields.{class_named}
use Rattle.wy_elab_expr.specs.Meaning.{Meaning, Formed, type_of, Gets, give, ◌>>=◌, formed}
use Rattle.wy_elab_expr.specs.Operators.{Judgement, unary_of, choice_of, cast_of, instance_of}
use Rattle.wy_elab_expr.specs.Members.{Spot, this_form, named_spot, field_read, qualified_name, called, Nothing, Super, created, int_type}
use Rattle.wy_elab_expr.specs.Elaboration.{type_with, type_written, ClassName, Stream, class_in, stream_in, called_on_class, called_on, called_on_stream, super_spot, above, element_of, element_spot, sizes_of, with_brackets, assigned_value, assigned, updated, stepped, read, field_target, class_target, just, class_for_new, Listing, listing, or_type, is_place, elaborated, elaborated_all, target, elements_of, initialized, Typed, typed}
use Rattle.wy_typing.specs.Expressions as typing
use Rattle.wy_typing.specs.Expressions.{HasType, Gives, GivesAll, IsPlace}
use Rattle.wy_typing.specs.Programs.{IsTypeIn}
use Rattle.law_typed.specs.ExpressionsWritten.{IsName, IsSome, IsWritten, AreWritten, InitialWritten, ElementsWritten}
use Rattle.law_typed.specs.ExpressionsTyped.{table_of, Stands, HasItsType, ExpressionsAreTyped, InitialsFit}
use Rattle.law_typed.proofs.Operating as operating
use Rattle.law_typed.proofs.Naming as naming
use Rattle.law_typed.proofs.Calling as calling
use Rattle.law_typed.proofs.Elaborating as rules
use Rattle.law_typed.proofs.Sequence.{Sound, HasWithin, next, given, none_found, under, if_either}

module _ (p : Program) (constants : List (Option ConstantValue)) (j : Judgement) (locals : List Ty) (s : Scope) (g : Stands p constants j locals s) where
  abbrev T : Table
  T = table_of p constants

  abbrev n : ℕ
  n = length p.fixed_texts

  abbrev Fit : Meaning → Type 0
  Fit = rules.Fit p constants j locals s g

  abbrev AllFit : List Meaning → Type 0
  AllFit = rules.AllFit p constants j locals s g

  abbrev SpotFits : Spot → Type 0
  SpotFits = rules.SpotFits p constants j locals s g

  abbrev OptionSpot : Option Spot → Type 0
  OptionSpot = rules.OptionSpot p constants j locals s g

  abbrev ListingFits : Ty → Listing → Type 0
  ListingFits = rules.ListingFits p constants j locals s g

  -- as many as there are expressions, so some where there is one
  abbrev pub RowFits : Row → List Meaning → Type 0
  RowFits args ms = AllFit ms × (IsSome args → 0 < length ms)

  abbrev Finds : {A : Type 0} → (A → Type 0) → Gets A → Type 0
  Finds Q m = Sound n Unit Q m

  args_first : (args : Row) (f : List Meaning → Gets Meaning) → Finds (RowFits args) (elaborated_all j T s args) → ((ms : List Meaning) → Sound n (AllFit ms) Fit (f ms)) → Finds Fit (elaborated_all j T s args >>= f)
  args_first args f h k = next (RowFits args) (elaborated_all j T s args) f h (λ ms. under Fit (f ms) (λ u. u.1.0) (k ms))

  -- ---- what stands before a dot

  field_by : (o : Option ClassName) (object : Expression) (name : List ℕ) (token : ℕ) → Finds Fit (elaborated j T s object) →
      Finds Fit (elim o [
        | Some c ↦ qualified_name T s c.name name c.token token
        | None ↦ (do
          m ← elaborated j T s object
          field_read T s m name token)
      ])
  field_by (Some c) object name token h = naming.qualified_sound p constants j locals s g c.name name c.token token
  field_by None object name token h = next Fit (elaborated j T s object) (λ m. field_read T s m name token) h (λ m. under Fit (field_read T s m name token) (λ u. u.1) (naming.field_sound p constants j locals s g m name token))

  target_by : (o : Option ClassName) (object : Expression) (name : List ℕ) (token : ℕ) → Finds Fit (elaborated j T s object) →
      Finds OptionSpot (elim o [
        | Some c ↦ class_target T s c name token
        | None ↦ (do
          m ← elaborated j T s object
          field_target T s m name token)
      ])
  target_by (Some c) object name token h = rules.class_target_sound p constants j locals s g c name token
  target_by None object name token h = next Fit (elaborated j T s object) (λ m. field_target T s m name token) h (λ m. under OptionSpot (field_target T s m name token) (λ u. u.1) (rules.field_target_sound p constants j locals s g m name token))

  call_by : (x : Option Stream) (o : Option ClassName) (object : Expression) (name : List ℕ) (args : Row) (token : ℕ) → IsName name → Finds Fit (elaborated j T s object) → Finds (RowFits args) (elaborated_all j T s args) →
      Finds Fit (elim x [
        | Some stream ↦ (do
          arguments ← elaborated_all j T s args
          called_on_stream stream name arguments token)
        | None ↦ elim o [
          | Some c ↦ (do
            arguments ← elaborated_all j T s args
            called_on_class j T s c name arguments token)
          | None ↦ (do
            m ← elaborated j T s object
            arguments ← elaborated_all j T s args
            called_on j T s m name arguments token)
        ]
      ])
  call_by (Some stream) o object name args token ok h k = args_first args (λ ms. called_on_stream stream name ms token) k (λ ms. rules.on_stream_sound p constants j locals s g stream name ms token)
  call_by None (Some c) object name args token ok h k = args_first args (λ ms. called_on_class j T s c name ms token) k (λ ms. rules.on_class_sound p constants j locals s g c name ms token ok)
  call_by None None object name args token ok h k =
      next Fit (elaborated j T s object) (λ m. elaborated_all j T s args >>= λ ms. called_on j T s m name ms token) h
      (λ m. next (RowFits args) (elaborated_all j T s args) (λ ms. called_on j T s m name ms token) (under (RowFits args) (elaborated_all j T s args) (λ u. tt) k)
      (λ ms. under Fit (called_on j T s m name ms token) (λ u. (u.0.1, u.1.0)) (rules.on_sound p constants j locals s g m name ms token ok)))

  -- ---- two parts, and a place

  two : {f : Meaning → Meaning → Gets Meaning} (a b : Expression) → Finds Fit (elaborated j T s a) → Finds Fit (elaborated j T s b) → ((x y : Meaning) → Sound n (Fit x × Fit y) Fit (f x y)) → Finds Fit (elaborated j T s a >>= λ x. elaborated j T s b >>= λ y. f x y)
  two {f} a b h k u =
      next Fit (elaborated j T s a) (λ x. elaborated j T s b >>= λ y. f x y) h
      (λ x. next Fit (elaborated j T s b) (λ y. f x y) (under Fit (elaborated j T s b) (λ v. tt) k) (λ y. under Fit (f x y) (λ v. (v.0.1, v.1)) (u x y)))

  read_spot : (m : Gets Spot) → Finds SpotFits m → Finds Fit (m >>= λ x. give (read x))
  read_spot m h = next SpotFits m (λ x. give (read x)) h (λ x. given Fit (read x) (λ u. naming.read_fits p constants j locals s g None x 0 u.1))

  class_sound : (o : Option ℕ) (token : ℕ) → Finds (λ c. Unit {0}) (class_for_new o token)
  class_sound (Some c) token = given (λ c. Unit {0}) c (λ u. tt)
  class_sound None token = none_found (λ c. Unit {0}) UnknownName token

  -- an array without elements, with some sizes
  array_typed : (b : Base) (ty : Ty) (ms : List Meaning) (dims : kernel.Row) (brackets token : ℕ) → ty ≡ Of b 0 → IsTypeIn p ty → 0 < length ms → GivesAll p locals dims (replicate (length ms) int_type) →
      HasItsType p locals (kernel.NewArray (with_brackets ty (length ms + brackets)) dims kernel.none [] token) (with_brackets ty (length ms + brackets))
  array_typed b ty [] dims brackets token is w lt h = absurd (omega (arith, lt))
  array_typed b ty (m ∷ ms) dims brackets token is w lt h =
      let many : ℕ = length (m ∷ ms) + brackets in
      let P : Ty → Type 0 = λ x. HasItsType p locals (kernel.NewArray (with_brackets x many) dims kernel.none [] token) (with_brackets x many) in
      let R : Ty → Type 0 = λ x. IsTypeOf (length p.classes) x in
      subst P (sym is) (Of b (0 + many), typing.array (length ms) (omega arith) (rules.more_brackets p constants j locals s g b 0 (0 + many) (subst R is w.known)) h, inl refl)

  instance_known : (to : Ty) (m : Meaning) (token : ℕ) → Sound n ((Unit × Fit m) × IsTypeIn p to) Fit (instance_of j T to m token)
  instance_known to m token = under Fit (instance_of j T to m token) (λ u. (u.0.1, u.1)) (operating.instance_sound p constants j locals s g to m token)

  cast_known : (to : Ty) (m : Meaning) (token : ℕ) → Sound n ((Unit × IsTypeIn p to) × Fit m) Fit (cast_of j T to m token)
  cast_known to m token = under Fit (cast_of j T to m token) (λ u. (u.1, u.0.1)) (operating.cast_sound p constants j locals s g to m token)

  mutual
    unfolding elaborated elaborated_all target elements_of initialized

    pub expression : (e : Expression) → IsWritten e → Finds Fit (elaborated j T s e)
    expression (Literal value token) w = rules.literal_sound p constants j locals s g value token
    expression (Name name token) w = naming.named_sound p constants j locals s g name token
    expression (This token) w = if_either Fit s.has_this _ _ (λ e. given Fit (Formed this_form (class_type s.class)) (λ u. (class_type s.class, typing.read (typing.local (g.scope.own e)), inl refl))) (λ e. none_found Fit NotInStatic token)
    expression (Group inner token) w = expression inner w.1
    expression (Invoke name args token) w =
        args_first args (λ ms. called j T s Nothing (class_type s.class) name ms token) (arguments args w.1)
        (λ ms. under Fit (called j T s Nothing (class_type s.class) name ms token) (λ u. (u, refl)) (calling.called_sound p constants j locals s g Nothing (class_type s.class) name ms token w.0))
    expression (Field object name token) w = field_by (class_in T s object) object name token (expression object w.1)
    expression (InvokeOn object name args token) w = call_by (stream_in T s object) (class_in T s object) object name args token w.0 (expression object w.1) (arguments args w.2)
    expression (SuperField name token) w = read_spot (super_spot T s name token) (naming.super_spot_sound p constants j locals s g name token)
    expression (SuperInvoke name args token) w =
        args_first args (λ ms. called j T s Super (class_type (above T s)) name ms token) (arguments args w.1)
        (λ ms. under Fit (called j T s Super (class_type (above T s)) name ms token) (λ u. (u, refl)) (calling.called_sound p constants j locals s g Super (class_type (above T s)) name ms token w.0))
    expression (Element array index token) w =
        two array index (expression array w.1) (expression index w.2)
        (λ a i. next SpotFits (element_spot a i token) (λ x. give (read x)) (rules.element_sound p constants j locals s g a i token) (λ x. given Fit (read x) (λ u. naming.read_fits p constants j locals s g None x 0 u.1)))
    expression (NewObject class args token) w =
        next (λ c. Unit {0}) (class_for_new (class_named T.classes class.name) class.token) (λ c. elaborated_all j T s args >>= λ ms. created j T s c ms token) (class_sound (class_named T.classes class.name) class.token)
        (λ c. under Fit (elaborated_all j T s args >>= λ ms. created j T s c ms token) (λ u. tt) (args_first args (λ ms. created j T s c ms token) (arguments args w.1) (λ ms. calling.created_sound p constants j locals s g c ms token)))
    expression (NewArray base base_token sizes brackets token) w =
        next (rules.IsWith p constants j locals s g 0) (type_with T base 0 base_token) (λ ty. elaborated_all j T s sizes >>= λ ms. sizes_of ms token >>= λ dims. give (Formed (kernel.NewArray (with_brackets ty (length ms + brackets)) dims kernel.none [] token) (with_brackets ty (length ms + brackets))))
        (rules.type_with_sound p constants j locals s g base 0 base_token)
        (λ ty. next (RowFits sizes) (elaborated_all j T s sizes) (λ ms. sizes_of ms token >>= λ dims. give (Formed (kernel.NewArray (with_brackets ty (length ms + brackets)) dims kernel.none [] token) (with_brackets ty (length ms + brackets))))
        (under (RowFits sizes) (elaborated_all j T s sizes) (λ u. tt) (arguments sizes w.1))
        (λ ms. next (λ r. GivesAll p locals r (replicate (length ms) int_type)) (sizes_of ms token) (λ dims. give (Formed (kernel.NewArray (with_brackets ty (length ms + brackets)) dims kernel.none [] token) (with_brackets ty (length ms + brackets))))
        (under (λ r. GivesAll p locals r (replicate (length ms) int_type)) (sizes_of ms token) (λ u. u.1.0) (rules.sizes_sound p constants j locals s g ms token))
        (λ dims. given Fit (Formed (kernel.NewArray (with_brackets ty (length ms + brackets)) dims kernel.none [] token) (with_brackets ty (length ms + brackets)))
        (λ u. array_typed u.0.0.1.0 ty ms dims brackets token u.0.0.1.1 u.0.0.1.2 (u.0.1.1 w.0) u.1))))
    expression (NewList base base_token brackets elements brace token) w =
        next (rules.IsWith p constants j locals s g brackets) (type_with T base brackets base_token) (λ ty. or_type (element_of ty) brace >>= λ inner. elements_of j T s inner elements >>= λ all. give (Formed (kernel.NewArray ty kernel.none all.forms all.sites token) ty))
        (rules.type_with_sound p constants j locals s g base brackets base_token)
        (λ ty. next (rules.IsArrayOf p constants j locals s g ty) (or_type (element_of ty) brace) (λ inner. elements_of j T s inner elements >>= λ all. give (Formed (kernel.NewArray ty kernel.none all.forms all.sites token) ty))
        (under (rules.IsArrayOf p constants j locals s g ty) (or_type (element_of ty) brace) (λ u. tt) (rules.element_type_sound p constants j locals s g (element_of ty) ty brace refl))
        (λ inner. next (ListingFits inner) (elements_of j T s inner elements) (λ all. give (Formed (kernel.NewArray ty kernel.none all.forms all.sites token) ty))
        (under (ListingFits inner) (elements_of j T s inner elements) (λ u. rules.element_known p constants j locals s g ty inner u.0.1.2.known u.1) (listed inner elements w.1))
        (λ all. given Fit (Formed (kernel.NewArray ty kernel.none all.forms all.sites token) ty)
        (λ u. (ty, rules.filled_typed p constants j locals s g ty inner all token u.0.0.1.2.known u.0.1 u.1, inl refl)))))
    expression (Unary op operand token) w = next Fit (elaborated j T s operand) (λ m. unary_of op m token) (expression operand w.1) (λ m. under Fit (unary_of op m token) (λ u. u.1) (operating.unary_sound p constants j locals s g op m token))
    expression (Step is_before is_up operand token) w =
        next OptionSpot (if is_place operand then target j T s operand else elaborated j T s operand >>= λ m. give None) (λ x. stepped is_before is_up x token)
        (if_either OptionSpot (is_place operand) _ _ (λ e. place operand w.1) (λ e. next Fit (elaborated j T s operand) (λ m. give None) (expression operand w.1) (λ m. given OptionSpot None (λ u. tt))))
        (λ x. under Fit (stepped is_before is_up x token) (λ u. u.1) (rules.stepped_sound p constants j locals s g is_before is_up x token))
    expression (Binary op left right token) w = two left right (expression left w.1) (expression right w.2) (λ a b. operating.binary_sound p constants j locals s g op a b token)
    expression (Both left right token) w = two left right (expression left w.1) (expression right w.2) (λ a b. operating.lazy_sound p constants j locals s g cond.And (λ x y. x && y) a b token (λ e. cc))
    expression (Either left right token) w = two left right (expression left w.1) (expression right w.2) (λ a b. operating.lazy_sound p constants j locals s g cond.Or (λ x y. x || y) a b token (λ e. cc))
    expression (InstanceOf left ty token) w =
        next Fit (elaborated j T s left) (λ m. type_written T ty >>= λ to. instance_of j T to m token) (expression left w.1)
        (λ m. next (IsTypeIn p) (type_written T ty) (λ to. instance_of j T to m token) (under (IsTypeIn p) (type_written T ty) (λ u. tt) (rules.type_written_sound p constants j locals s g ty))
        (λ to. instance_known to m token))
    expression (Cast ty operand token) w =
        next (IsTypeIn p) (type_written T ty) (λ to. elaborated j T s operand >>= λ m. cast_of j T to m token) (rules.type_written_sound p constants j locals s g ty)
        (λ to. next Fit (elaborated j T s operand) (λ m. cast_of j T to m token) (under Fit (elaborated j T s operand) (λ u. tt) (expression operand w.1))
        (λ m. cast_known to m token))
    expression (Choice test main other token) w =
        next Fit (elaborated j T s test) (λ z. elaborated j T s main >>= λ a. elaborated j T s other >>= λ b. choice_of j T z a b token) (expression test w.1)
        (λ z. next Fit (elaborated j T s main) (λ a. elaborated j T s other >>= λ b. choice_of j T z a b token) (under Fit (elaborated j T s main) (λ u. tt) (expression main w.2))
        (λ a. next Fit (elaborated j T s other) (λ b. choice_of j T z a b token) (under Fit (elaborated j T s other) (λ u. tt) (expression other w.3))
        (λ b. under Fit (choice_of j T z a b token) (λ u. (u.0.0.1, u.0.1, u.1)) (operating.choice_sound p constants j locals s g z a b token))))
    expression (Assign left value token) w =
        next OptionSpot (target j T s left) (λ x. elaborated j T s value >>= λ m. assigned j x m token) (place left w.1)
        (λ x. next Fit (elaborated j T s value) (λ m. assigned j x m token) (under Fit (elaborated j T s value) (λ u. tt) (expression value w.2))
        (λ m. under Fit (assigned j x m token) (λ u. (u.0.1, u.1)) (rules.assigned_sound p constants j locals s g x m token)))
    expression (Update op left value token) w =
        next OptionSpot (target j T s left) (λ x. elaborated j T s value >>= λ m. updated j T op x m token) (place left w.1)
        (λ x. next Fit (elaborated j T s value) (λ m. updated j T op x m token) (under Fit (elaborated j T s value) (λ u. tt) (expression value w.2))
        (λ m. under Fit (updated j T op x m token) (λ u. (u.0.1, u.1)) (rules.updated_sound p constants j locals s g op x m token w.0)))
    expression Wrong w = none_found Fit BadOperand 0

    pub arguments : (args : Row) → AreWritten args → Finds (RowFits args) (elaborated_all j T s args)
    arguments none w = given (RowFits none) [] (λ u. (tt, λ x. absurd x))
    arguments (more e rest) w =
        next Fit (elaborated j T s e) (λ m. elaborated_all j T s rest >>= λ ms. give (m ∷ ms)) (expression e w.0)
        (λ m. next (RowFits rest) (elaborated_all j T s rest) (λ ms. give (m ∷ ms)) (under (RowFits rest) (elaborated_all j T s rest) (λ u. tt) (arguments rest w.1))
        (λ ms. given (RowFits (more e rest)) (m ∷ ms) (λ u. ((u.0.1, u.1.0), λ x. omega arith))))

    -- the variable that an expression is, if it is one
    place : (e : Expression) → IsWritten e → Finds OptionSpot (target j T s e)
    place (Name name token) w = rules.some_sound p constants j locals s g (named_spot T s name token) (naming.named_spot_sound p constants j locals s g name token)
    place (Group inner token) w = place inner w.1
    place (Field object name token) w = target_by (class_in T s object) object name token (expression object w.1)
    place (SuperField name token) w = rules.some_sound p constants j locals s g (super_spot T s name token) (naming.super_spot_sound p constants j locals s g name token)
    place (Element array index token) w =
        next Fit (elaborated j T s array) (λ a. elaborated j T s index >>= λ i. just (element_spot a i token)) (expression array w.1)
        (λ a. next Fit (elaborated j T s index) (λ i. just (element_spot a i token)) (under Fit (elaborated j T s index) (λ u. tt) (expression index w.2))
        (λ i. rules.some_sound p constants j locals s g (element_spot a i token) (under SpotFits (element_spot a i token) (λ u. (u.0.1, u.1)) (rules.element_sound p constants j locals s g a i token))))
    place _ w = given OptionSpot None (λ u. tt)

    -- the elements of an array initializer, each of a type
    listed : (ty : Ty) (all : Elements) → ElementsWritten all → Sound n (IsTypeIn p ty) (ListingFits ty) (elements_of j T s ty all)
    listed ty no_more w = given (ListingFits ty) (listing kernel.none []) (λ u. typing.nothing)
    listed ty (element before first rest) w =
        next (λ e. Gives p locals e ty) (initialized j T s ty first before) (λ e. elements_of j T s ty rest >>= λ all. give (listing (kernel.more e all.forms) (before ∷ all.sites))) (initial ty first before w.0)
        (λ e. next (ListingFits ty) (elements_of j T s ty rest) (λ all. give (listing (kernel.more e all.forms) (before ∷ all.sites))) (under (ListingFits ty) (elements_of j T s ty rest) (λ u. u.0) (listed ty rest w.1))
        (λ all. given (ListingFits ty) (listing (kernel.more e all.forms) (before ∷ all.sites)) (λ u. typing.and_more u.0.1 u.1)))

    -- what a variable or an element of a type is given first
    pub initial : (ty : Ty) (i : Initial) (token : ℕ) → InitialWritten i → Sound n (IsTypeIn p ty) (λ e. Gives p locals e ty) (initialized j T s ty i token)
    initial ty (Value e) token w =
        next Fit (elaborated j T s e) (λ m. assigned_value j ty m token) (under Fit (elaborated j T s e) (λ u. tt) (expression e w))
        (λ m. under (λ e. Gives p locals e ty) (assigned_value j ty m token) (λ u. u.1) (rules.assigned_value_sound p constants j locals s g ty m token))
    initial ty (Listed elements brace) token w =
        next (rules.IsArrayOf p constants j locals s g ty) (or_type (element_of ty) brace) (λ inner. elements_of j T s inner elements >>= λ all. give (kernel.NewArray ty kernel.none all.forms all.sites brace))
        (under (rules.IsArrayOf p constants j locals s g ty) (or_type (element_of ty) brace) (λ u. tt) (rules.element_type_sound p constants j locals s g (element_of ty) ty brace refl))
        (λ inner. next (ListingFits inner) (elements_of j T s inner elements) (λ all. give (kernel.NewArray ty kernel.none all.forms all.sites brace))
        (under (ListingFits inner) (elements_of j T s inner elements) (λ u. rules.element_known p constants j locals s g ty inner u.0.known u.1) (listed inner elements w))
        (λ all. given (λ e. Gives p locals e ty) (kernel.NewArray ty kernel.none all.forms all.sites brace)
        (λ u. typing.fitting (rules.filled_typed p constants j locals s g ty inner all brace u.0.0.known u.0.1 u.1) (inl refl))))

  typed_by : (e : Expression) → IsWritten e → Finds (λ (x : Typed). HasItsType p locals x.form x.ty) (typed j T s e)
  unfolding typed
  typed_by e w =
      next Fit (elaborated j T s e) (λ m. formed m >>= λ form. give (record { form = form; ty = type_of m })) (expression e w)
      (λ m. next (λ form. HasItsType p locals form (type_of m)) (formed m) (λ form. give (record { form = form; ty = type_of m }))
      (operating.formed_any p constants j locals s g m (λ u. u.1))
      (λ form. given (λ (x : Typed). HasItsType p locals x.form x.ty) (record { form = form; ty = type_of m }) (λ u. u.1)))

  pub is_typed : (e : Expression) → IsWritten e → Finds (λ (x : Typed). HasItsType p locals x.form x.ty) (typed j T s e)
  is_typed e w = typed_by e w

found : {A : Type 0} {n : ℕ} {H : Type 0} (Q : A → Type 0) (m : Gets A) (texts after : List FixedText) (x : A) → Sound n H Q m → H → m texts ≡ Ok (x, after) → length after ≤ n → Q x
found {n = n} Q m texts after x h u e lt = let P : Result _ Refusal → Type 0 = λ r. HasWithin n Q r in subst P e (h.finds u texts) lt

pub expressions_are_typed : ExpressionsAreTyped
expressions_are_typed p constants j locals s e texts after x g w is lt =
    found (λ (y : Typed). HasItsType p locals y.form y.ty) (typed j (table_of p constants) s e) texts after x (is_typed p constants j locals s g e w) tt is lt

pub initials_fit : InitialsFit
initials_fit p constants j locals s ty i token texts after e g w known is lt =
    found (λ y. Gives p locals y ty) (initialized j (table_of p constants) s ty i token) texts after e (initial p constants j locals s g ty i token w) known is lt
