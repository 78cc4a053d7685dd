-- A constant expression keeps its value where more constants are known.
use Rattle.std.proofs.Common.{◌≡◌, ℕ, zero, suc, Bool, true, false, cond, ◌&&◌, ◌||◌, not, List, Option, Some, None, refl, sym, ◌∙◌, ap, length}
use Rattle.std.specs.Prelude.{option_and_then, is_some, slice_get, bytes_eq, codes}
use Rattle.wy_syntax.specs.Syntax.{Expression, Name, Group, Field, Unary, Binary, Both, Either, Cast, Choice}
use Rattle.wy_kernel.specs.Program as parts
use Rattle.wy_kernel.specs.Table.{Table, ConstantValue}
use Rattle.wy_constant.specs.Scope.{Scope, Variable, denoted}
use Rattle.wy_constant.specs.Fields.{declared_field, superclass, or_above, field_within, field_of, the, class_named}
use Rattle.wy_constant.specs.Constant.{constant, both, combined, choice_constant, unary_constant, binary_constant, cast_constant, truth, constant_variable, field_value, variable_value, name_constant, can_name_class, class_value, member_constant, qualified, name_in}
use Rattle.wy_members.specs.Constants.{with_constants, told, initial_value_of}

-- the second has each value of the first
abbrev pub Keeps : {A : Type 0} → Option A → Option A → Type 0
Keeps {A} a b = (v : A) → a ≡ Some v → b ≡ Some v

abbrev pub Extends : {A : Type 0} → List (Option A) → List (Option A) → Type 0
Extends {A} a b = (k : ℕ) (v : A) → slice_get a k ≡ Some (Some v) → slice_get b k ≡ Some (Some v)

keeps_same : {A : Type 0} (a b : Option A) → a ≡ b → Keeps a b
keeps_same a b e v h = sym e ∙ h

keeps_then : {A B : Type 0} (f : A → Option B) (a b : Option A) → Keeps a b → Keeps (option_and_then f a) (option_and_then f b)
keeps_then f (Some x) b h v e = ap (option_and_then f) (h x refl) ∙ e
keeps_then f None b h v e = cc

keeps_both : (f : ConstantValue → ConstantValue → Option ConstantValue) (a b c d : Option ConstantValue) → Keeps a b → Keeps c d → Keeps (both f a c) (both f b d)
keeps_both f (Some x) b (Some y) d h g v e = ap (λ o. both f o d) (h x refl) ∙ ap (both f (Some x)) (g y refl) ∙ e
keeps_both f (Some x) b None d h g v e = cc
keeps_both f None b (Some y) d h g v e = cc
keeps_both f None b None d h g v e = cc

keeps_combined : (f : Bool → Bool → Bool) (a b c d : Option Bool) → Keeps a b → Keeps c d → Keeps (combined f a c) (combined f b d)
keeps_combined f (Some x) b (Some y) d h g v e = ap (λ o. combined f o d) (h x refl) ∙ ap (combined f (Some x)) (g y refl) ∙ e
keeps_combined f (Some x) b None d h g v e = cc
keeps_combined f None b (Some y) d h g v e = cc
keeps_combined f None b None d h g v e = cc

keeps_choice : (a b : Option Bool) (c d m n : Option ConstantValue) → Keeps a b → Keeps c d → Keeps m n → Keeps (choice_constant a c m) (choice_constant b d n)
unfolding choice_constant
keeps_choice (Some t) b (Some x) d (Some y) n h g k v e = ap (λ o. choice_constant o d n) (h t refl) ∙ ap (λ o. choice_constant (Some t) o n) (g x refl) ∙ ap (choice_constant (Some t) (Some x)) (k y refl) ∙ e
keeps_choice (Some t) b (Some x) d None n h g k v e = cc
keeps_choice (Some t) b None d (Some y) n h g k v e = cc
keeps_choice (Some t) b None d None n h g k v e = cc
keeps_choice None b (Some x) d (Some y) n h g k v e = cc
keeps_choice None b (Some x) d None n h g k v e = cc
keeps_choice None b None d (Some y) n h g k v e = cc
keeps_choice None b None d None n h g k v e = cc

keeps_if : {A : Type 0} (b : Bool) (x y z w : Option A) → Keeps x y → Keeps z w → Keeps (cond b x z) (cond b y w)
keeps_if true x y z w h g = h
keeps_if false x y z w h g = g

-- ---- names

above_same : (o a : Option ℕ) (f g : ℕ → Option ℕ) → ((c : ℕ) → f c ≡ g c) → or_above o a f ≡ or_above o a g
above_same (Some field) a f g e = refl
above_same None (Some c) f g e = e c
above_same None None f g e = refl

within_same : (longest : ℕ) (t : Table) (a b : List (Option ConstantValue)) (class : ℕ) (name : List ℕ) → field_within longest (with_constants t a) class name ≡ field_within longest (with_constants t b) class name
unfolding field_within
within_same zero t a b class name = refl
within_same (suc longest) t a b class name =
    above_same (declared_field t.fields class name) (superclass (slice_get t.classes class)) (λ above. field_within longest (with_constants t a) above name) (λ above. field_within longest (with_constants t b) above name)
    (λ above. within_same longest t a b above name)

field_of_same : (t : Table) (a b : List (Option ConstantValue)) (class : ℕ) (name : List ℕ) → field_of (with_constants t a) class name ≡ field_of (with_constants t b) class name
field_of_same t a b class name = within_same (length t.classes) t a b class name

the_some : (o : Option (Option ConstantValue)) (v : ConstantValue) → the o ≡ Some v → o ≡ Some (Some v)
the_some (Some c) v e = ap Some e
the_some None v e = cc

keeps_field : (t : Table) (a b : List (Option ConstantValue)) → Extends a b → (field : Option ℕ) → Keeps (field_value (with_constants t a) field) (field_value (with_constants t b) field)
keeps_field t a b h (Some k) v e = ap the (h k v (the_some (slice_get a k) v e))
keeps_field t a b h None v e = cc

keeps_field_of : (t : Table) (a b : List (Option ConstantValue)) → Extends a b → (class : ℕ) (name : List ℕ) →
    Keeps (field_value (with_constants t a) (field_of (with_constants t a) class name)) (field_value (with_constants t b) (field_of (with_constants t b) class name))
keeps_field_of t a b h class name v e =
    ap (field_value (with_constants t b)) (sym (field_of_same t a b class name)) ∙ keeps_field t a b h (field_of (with_constants t a) class name) v e

keeps_variable : (t : Table) (a b : List (Option ConstantValue)) → Extends a b → (class : ℕ) (name : List ℕ) (found : Option Variable) →
    Keeps (variable_value (with_constants t a) class name found) (variable_value (with_constants t b) class name found)
keeps_variable t a b h class name (Some x) v e = e
keeps_variable t a b h class name None v e = keeps_field_of t a b h class name v e

keeps_name : (t : Table) (a b : List (Option ConstantValue)) → Extends a b → (s : Scope) (name : List ℕ) → Keeps (name_constant (with_constants t a) s name) (name_constant (with_constants t b) s name)
unfolding name_constant
keeps_name t a b h s name = keeps_variable t a b h s.class name (denoted s name)

can_name_same : (t : Table) (a b : List (Option ConstantValue)) (s : Scope) (name : List ℕ) → can_name_class (with_constants t a) s name ≡ can_name_class (with_constants t b) s name
unfolding can_name_class
can_name_same t a b s name = ap (λ f. not (is_some (denoted s name) || is_some f)) (field_of_same t a b s.class name)

keeps_class : (t : Table) (a b : List (Option ConstantValue)) → Extends a b → (class : Option ℕ) (name : List ℕ) → Keeps (class_value (with_constants t a) class name) (class_value (with_constants t b) class name)
keeps_class t a b h (Some class) name v e = keeps_field_of t a b h class name v e
keeps_class t a b h None name v e = cc

keeps_member : (t : Table) (a b : List (Option ConstantValue)) → Extends a b → (class name : List ℕ) → Keeps (member_constant (with_constants t a) class name) (member_constant (with_constants t b) class name)
unfolding member_constant
keeps_member t a b h class name =
    keeps_if (bytes_eq class (codes "Integer")) _ _ _ _ (λ v e. e)
    (keeps_if (bytes_eq class (codes "Long")) _ _ _ _ (λ v e. e) (keeps_class t a b h (class_named t.classes class) name))

keeps_qualified : (t : Table) (a b : List (Option ConstantValue)) → Extends a b → (s : Scope) (class : Option (List ℕ)) (name : List ℕ) →
    Keeps (qualified (with_constants t a) s class name) (qualified (with_constants t b) s class name)
keeps_qualified t a b h s (Some class) name v e =
    ap (λ p. cond p (member_constant (with_constants t b) class name) None) (sym (can_name_same t a b s class))
    ∙ keeps_if (can_name_class (with_constants t a) s class) _ _ None None (keeps_member t a b h class name) (λ w g. g) v e
keeps_qualified t a b h s None name v e = cc

-- ---- expressions

pub keeps_constant : (t : Table) (a b : List (Option ConstantValue)) → Extends a b → (s : Scope) (e : Expression) → Keeps (constant (with_constants t a) s e) (constant (with_constants t b) s e)
unfolding constant
keeps_constant t a b h s (Name name token) = keeps_name t a b h s name
keeps_constant t a b h s (Group inner token) = keeps_constant t a b h s inner
keeps_constant t a b h s (Field object name token) = keeps_qualified t a b h s (name_in object) name
keeps_constant t a b h s (Unary op operand token) = keeps_then (unary_constant op) _ _ (keeps_constant t a b h s operand)
keeps_constant t a b h s (Binary op left right token) = keeps_both (binary_constant op) _ _ _ _ (keeps_constant t a b h s left) (keeps_constant t a b h s right)
keeps_constant t a b h s (Both left right token) = keeps_combined (λ p q. p && q) _ _ _ _ (keeps_then truth _ _ (keeps_constant t a b h s left)) (keeps_then truth _ _ (keeps_constant t a b h s right))
keeps_constant t a b h s (Either left right token) = keeps_combined (λ p q. p || q) _ _ _ _ (keeps_then truth _ _ (keeps_constant t a b h s left)) (keeps_then truth _ _ (keeps_constant t a b h s right))
keeps_constant t a b h s (Cast ty operand token) = keeps_then (cast_constant ty) _ _ (keeps_constant t a b h s operand)
keeps_constant t a b h s (Choice test main other token) = keeps_choice _ _ _ _ _ _ (keeps_then truth _ _ (keeps_constant t a b h s test)) (keeps_constant t a b h s main) (keeps_constant t a b h s other)
keeps_constant t a b h s _ = λ v e. e

keeps_initial : (t : Table) (a b : List (Option ConstantValue)) → Extends a b → (f : Option parts.Field) (e : Option (Option Expression)) → Keeps (initial_value_of (with_constants t a) f e) (initial_value_of (with_constants t b) f e)
keeps_initial t a b h (Some f) (Some (Some e)) = keeps_then (constant_variable f.ty) _ _ (keeps_constant t a b h _ e)
keeps_initial t a b h (Some f) (Some None) = λ v e. cc
keeps_initial t a b h (Some f) None = λ v e. cc
keeps_initial t a b h None (Some e) = λ v g. cc
keeps_initial t a b h None None = λ v e. cc

-- a field keeps its value where more constants are known
pub keeps_told : (t : Table) (all : List (Option Expression)) (a b : List (Option ConstantValue)) → Extends a b → (k : ℕ) → Keeps (told (with_constants t a) all k) (told (with_constants t b) all k)
keeps_told t all a b h k = keeps_initial t a b h (slice_get t.fields k) (slice_get all k)
