-- What the declarations of every program say of the library's classes and methods.
use Rattle.std.proofs.Common.{◌≡◌, ◌<◌, ◌≤◌, ◌+◌, ◌*◌, ◌^◌, arith, ℕ, zero, suc, Bool, true, false, List, [], ◌∷◌, ◌++◌, length, ◌⊎◌, inl, inr, Some, refl, sym, ap, ◌∙◌, subst}
use Rattle.std.specs.Prelude.{slice_get, codes, nat_le, drop, ◌&&◌}
use Rattle.std.specs.List.{list_all}
use Rattle.std.specs.List.{Contains}
use Rattle.std.proofs.lemmas.Bool.{leb-true}
use Rattle.wy_kernel.specs.declared.operator.Primitive.TheVariants as prim
use Rattle.wy_kernel.specs.declared.types.Base.{Base}
use Rattle.wy_kernel.specs.declared.types.Base.TheVariants.{Primitive as Basic, Class as Named}
use Rattle.wy_kernel.specs.declared.types.Ty.TheVariants.{Of}
use Rattle.wy_kernel.specs.Program.{Program, Class, Method, Field, is_source, object_class, string_class, type_of_code, base_of, base_code, primitive_code, type_code}
use Rattle.wy_kernel.specs.Subtyping.{Below, transitive, declared, class_type, object_type, direct_supertypes}
use Rattle.wy_kernel.specs.Table.{IsTypeOf, BeginsWith}
use Rattle.wy_kernel.specs.Builtin as builtin
use Rattle.wy_kernel.specs.Builtin.{throwable_class}
use Rattle.wy_meaning.specs.World.{class_code}
use Rattle.wy_typing.specs.Types.{text_type, boolean_type}
use Rattle.wy_typing.specs.Expressions.{IsMethod, IsField, IsMade}
use Rattle.law_typed_states.specs.Typed.{KeepsLibrary}
use Rattle.law_typed_states.proofs.Subtypes.{Top, code_back, named_code}

-- a class whose objects the machine throws
pub record Fails (p : Program) (c : ℕ) : Type 0 where
  pub made : IsMade p c
  pub below : Below p.classes (class_type c) (class_type throwable_class)
  pub code : type_of_code (class_code c) ≡ class_type c

nothing_in : (d : ℕ) → Contains [] d → ⊥
nothing_in d h = let l = h.1 in omega (arith, l)

one_in : (n d : ℕ) → Contains (n ∷ []) d → d ≡ n
one_in n d (zero, l, e) = sym e
one_in n d (suc k, l, e) = absurd (omega (arith, l))

module _ (p : Program) (begins : BeginsWith p.classes builtin.classes) where
  pub object_is_top : Top p.classes
  unfolding builtin.classes direct_supertypes
  object_is_top d = subst (λ cs. Contains (direct_supertypes cs object_class) d → ⊥) (sym begins.1) (nothing_in d)

  pub text_below_object : (d : ℕ) → Contains (direct_supertypes p.classes string_class) d → d ≡ object_class
  unfolding builtin.classes direct_supertypes
  text_below_object d = subst (λ cs. Contains (direct_supertypes cs string_class) d → d ≡ object_class) (sym begins.1) (one_in object_class d)

  abbrev Made : List Class → ℕ → Type 0
  Made cs c = (k : Class) × (slice_get cs c ≡ Some k) × (k.is_interface ≡ false) × (k.is_abstract ≡ false)

  abbrev Directly : List Class → ℕ → ℕ → Type 0
  Directly cs c d = Contains (direct_supertypes cs c) d

  pub object_made : IsMade p object_class
  unfolding builtin.classes
  object_made = subst (λ cs. Made cs object_class) (sym begins.1) (_, refl, refl, refl)

  pub text_made : IsMade p string_class
  unfolding builtin.classes
  text_made = subst (λ cs. Made cs string_class) (sym begins.1) (_, refl, refl, refl)

  runtime : Below p.classes (class_type 5) (class_type throwable_class)
  unfolding builtin.classes direct_supertypes
  runtime = transitive (declared (subst (λ cs. Directly cs 5 3) (sym begins.1) (0, omega arith, refl))) (declared (subst (λ cs. Directly cs 3 2) (sym begins.1) (0, omega arith, refl)))

  -- directly below RuntimeException
  of_runtime : (c : ℕ) → Made p.classes c → Directly p.classes c 5 → type_of_code (class_code c) ≡ class_type c → Fails p c
  of_runtime c m d e = record { made = m; below = transitive (declared d) runtime; code = e }

  pub arithmetic_fails : Fails p 6
  unfolding builtin.classes direct_supertypes class_code type_of_code base_of
  arithmetic_fails = of_runtime 6 (subst (λ cs. Made cs 6) (sym begins.1) (_, refl, refl, refl)) (subst (λ cs. Directly cs 6 5) (sym begins.1) (0, omega arith, refl)) refl

  pub array_store_fails : Fails p 7
  unfolding builtin.classes direct_supertypes class_code type_of_code base_of
  array_store_fails = of_runtime 7 (subst (λ cs. Made cs 7) (sym begins.1) (_, refl, refl, refl)) (subst (λ cs. Directly cs 7 5) (sym begins.1) (0, omega arith, refl)) refl

  pub class_cast_fails : Fails p 8
  unfolding builtin.classes direct_supertypes class_code type_of_code base_of
  class_cast_fails = of_runtime 8 (subst (λ cs. Made cs 8) (sym begins.1) (_, refl, refl, refl)) (subst (λ cs. Directly cs 8 5) (sym begins.1) (0, omega arith, refl)) refl

  pub number_format_fails : Fails p 10
  unfolding builtin.classes direct_supertypes class_code type_of_code base_of
  number_format_fails = record {
    made = subst (λ cs. Made cs 10) (sym begins.1) (_, refl, refl, refl);
    below = transitive (declared (subst (λ cs. Directly cs 10 9) (sym begins.1) (0, omega arith, refl))) (transitive (declared (subst (λ cs. Directly cs 9 5) (sym begins.1) (0, omega arith, refl))) runtime);
    code = refl;
  }

  index : Below p.classes (class_type 12) (class_type throwable_class)
  unfolding builtin.classes direct_supertypes
  index = transitive (declared (subst (λ cs. Directly cs 12 5) (sym begins.1) (0, omega arith, refl))) runtime

  pub array_index_fails : Fails p 13
  unfolding builtin.classes direct_supertypes class_code type_of_code base_of
  array_index_fails = record {
    made = subst (λ cs. Made cs 13) (sym begins.1) (_, refl, refl, refl);
    below = transitive (declared (subst (λ cs. Directly cs 13 12) (sym begins.1) (0, omega arith, refl))) index;
    code = refl;
  }

  pub string_index_fails : Fails p 14
  unfolding builtin.classes direct_supertypes class_code type_of_code base_of
  string_index_fails = record {
    made = subst (λ cs. Made cs 14) (sym begins.1) (_, refl, refl, refl);
    below = transitive (declared (subst (λ cs. Directly cs 14 12) (sym begins.1) (0, omega arith, refl))) index;
    code = refl;
  }

  pub negative_size_fails : Fails p 15
  unfolding builtin.classes direct_supertypes class_code type_of_code base_of
  negative_size_fails = of_runtime 15 (subst (λ cs. Made cs 15) (sym begins.1) (_, refl, refl, refl)) (subst (λ cs. Directly cs 15 5) (sym begins.1) (0, omega arith, refl)) refl

  pub null_pointer_fails : Fails p 16
  unfolding builtin.classes direct_supertypes class_code type_of_code base_of
  null_pointer_fails = of_runtime 16 (subst (λ cs. Made cs 16) (sym begins.1) (_, refl, refl, refl)) (subst (λ cs. Directly cs 16 5) (sym begins.1) (0, omega arith, refl)) refl

-- ---- codes

code_of_base : (many : ℕ) (b : Base) (n : ℕ) → 16 + many ≤ 2 ^ 24 → IsTypeOf many (Of b n) → (base_code b < 2 ^ 24) × (base_of (base_code b) ≡ b)
unfolding base_code primitive_code base_of
code_of_base many (Named c) n few h = (omega (arith, few, h), named_code c)
code_of_base many (Basic prim.Bool) n few h = (omega arith, refl)
code_of_base many (Basic prim.Byte) n few h = (omega arith, refl)
code_of_base many (Basic prim.Short) n few h = (omega arith, refl)
code_of_base many (Basic prim.Char) n few h = (omega arith, refl)
code_of_base many (Basic prim.Int) n few h = (omega arith, refl)
code_of_base many (Basic prim.Long) n few h = (omega arith, refl)

pub code_is : (many : ℕ) (b : Base) (n : ℕ) → 16 + many ≤ 2 ^ 24 → IsTypeOf many (Of b n) → type_of_code (type_code (Of b n)) ≡ Of b n
code_is many b n few h = let c = code_of_base many b n few h in code_back b n c.0 c.1

pub class_code_is : (many c : ℕ) → 16 + many ≤ 2 ^ 24 → c < many → type_of_code (class_code c) ≡ class_type c
unfolding class_code type_code base_code
class_code_is many c few h = let is : 16 + c ≡ 2 ^ 24 * 0 + (16 + c) = omega arith in ap type_of_code is ∙ code_is many (Named c) 0 few h

-- ---- methods

abbrev pub to_string_method : Method
to_string_method = builtin.instance 0 object_class (codes "toString") [] text_type

abbrev pub equals_method : Method
equals_method = builtin.instance 1 object_class (codes "equals") (object_type ∷ []) boolean_type

module _ (p : Program) (begins : BeginsWith p.methods builtin.methods) where
  pub to_string_is : IsMethod p 0 to_string_method
  unfolding builtin.methods builtin.first_methods
  to_string_is = subst (λ ms. slice_get ms 0 ≡ Some to_string_method) (sym begins.1) refl

  pub equals_is : IsMethod p 1 equals_method
  unfolding builtin.methods builtin.first_methods
  equals_is = subst (λ ms. slice_get ms 1 ≡ Some equals_method) (sym begins.1) refl

-- ---- what the library declares

pub get_front : {X : Type 0} (xs ys : List X) (k : ℕ) (x : X) → k < length xs → slice_get (xs ++ ys) k ≡ Some x → slice_get xs k ≡ Some x
get_front [] ys k x lt e = absurd (omega (arith, lt))
get_front (y ∷ xs) ys zero x lt e = e
get_front (y ∷ xs) ys (suc k) x lt e = get_front xs ys k x (omega (arith, lt)) e

both_true : (a b : Bool) → (a && b) ≡ true → (a ≡ true) × (b ≡ true)
both_true true b e = (refl, e)
both_true false b e = absurd (cc e)

all_get : {X : Type 0} (f : X → Bool) (xs : List X) (k : ℕ) (x : X) → list_all f xs ≡ true → slice_get xs k ≡ Some x → f x ≡ true
all_get f [] k x h e = absurd (cc e)
all_get f (y ∷ xs) zero x h e = let q : y ≡ x = cc e in subst (λ z. f z ≡ true) q (both_true (f y) (list_all f xs) h).0
all_get f (y ∷ xs) (suc k) x h e = all_get f xs k x (both_true (f y) (list_all f xs) h).1 e

-- no method of the library beyond the first two is of Object or of String
abbrev is_further : Method → Bool
is_further m = nat_le 2 m.class

further : (j : ℕ) (m : Method) → slice_get builtin.methods (suc (suc j)) ≡ Some m → nat_le 2 m.class ≡ true
unfolding builtin.methods builtin.first_methods
further j m e = all_get is_further (drop 2 builtin.methods) j m refl e

class_below_two : (c : ℕ) → (c ≡ object_class) ⊎ (c ≡ string_class) → (c < 2) × (is_source c ≡ false)
unfolding is_source
class_below_two c (inl e) = (omega (arith, e), ap is_source e)
class_below_two c (inr e) = (omega (arith, e), ap is_source e)

module _ (p : Program) (library : KeepsLibrary p) where
  -- what may be called on a text are the first two methods
  pub text_methods : BeginsWith p.methods builtin.methods → (k : ℕ) (m : Method) → IsMethod p k m → (m.class ≡ object_class) ⊎ (m.class ≡ string_class) → k < 2
  text_methods begins k m e c = go k refl
    where
      go : (j : ℕ) → k ≡ j → j < 2
      go zero q = omega arith
      go (suc zero) q = omega arith
      go (suc (suc j)) q =
          let small = class_below_two m.class c in
          let lt : suc (suc j) < length builtin.methods = subst (λ x. x < length builtin.methods) q (library.methods k m e small.1) in
          let there : slice_get (builtin.methods ++ begins.0) (suc (suc j)) ≡ Some m = subst (λ ms. slice_get ms (suc (suc j)) ≡ Some m) begins.1 (subst (λ x. slice_get p.methods x ≡ Some m) q e) in
          let high : 2 ≤ m.class = leb-true 2 m.class (further j m (get_front builtin.methods begins.0 (suc (suc j)) m lt there)) in
          let low = small.0 in
          absurd (omega (arith, high, low))

  library_field : (k : ℕ) (f : Field) → k < length builtin.fields → slice_get builtin.fields k ≡ Some f → f.is_static ≡ true → ⊥
  unfolding builtin.fields
  library_field zero f lt e s = absurd (cc (subst (λ (z : Field). z.is_static ≡ true) (sym (some_field e)) s))
    where
      some_field : {x y : Field} → Some x ≡ Some y → x ≡ y
      some_field e = cc e
  library_field (suc k) f lt e s = absurd (omega (arith, lt))

  -- a static field is of a class of the text
  pub static_of_source : BeginsWith p.fields builtin.fields → (k : ℕ) (f : Field) → IsField p k f → f.is_static ≡ true → is_source f.class ≡ true
  static_of_source begins k f e s = go (is_source f.class) refl
    where
      go : (b : Bool) → is_source f.class ≡ b → b ≡ true
      go true q = refl
      go false q = let lt = library.fields k f e q in absurd (library_field k f lt (get_front builtin.fields begins.0 k f lt (subst (λ fs. slice_get fs k ≡ Some f) begins.1 e)) s)
