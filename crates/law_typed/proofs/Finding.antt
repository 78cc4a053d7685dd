-- What look-ups in a table find.
use Rattle.std.proofs.Common.{◌≡◌, ℕ, zero, suc, ◌+◌, ◌<◌, ◌==◌, Bool, true, false, refl, sym, ◌∙◌, subst, List, [], ◌∷◌, ◌++◌, length, Option, Some, None, arith, cond, find}
use Rattle.std.specs.Prelude.{slice_get}
use Rattle.std.specs.Option.{option_to_list}
use Rattle.std.specs.List.{All, AllByRecursion, Contains, position_from}
use Rattle.std.proofs.lemmas.List.Elements.{All-get_or}
use Rattle.std.proofs.lemmas.Option.{slice_get_within, get_or_from_slice_get}
use Rattle.std.proofs.lemmas.Bool.{eqb-true}
use Rattle.wy_kernel.specs.Program.{Class, Field}
use Rattle.wy_kernel.specs.Subtyping.{Below, same, transitive, declared, class_type, direct_supertypes, named_above}
use Rattle.wy_kernel.specs.Table.{Table}
use Rattle.wy_constant.specs.Fields.{is_class_named, class_named, is_field, declared_field, superclass, or_above, field_within, field_of}
use Rattle.wy_constant.specs.Scope.{Variable}
use Rattle.law_typed.proofs.Bringing.{the_same, nothing_there, both_true}
use Rattle.wy_typing.proofs.Ranges.{all_at}

pub within : {X : Type 0} (xs : List X) (k : ℕ) (x : X) → slice_get xs k ≡ Some x → k < length xs
within xs k x e = slice_get_within xs k x e

-- ---- positions

pub record FoundAt {X : Type 0} (p : X → Bool) (xs : List X) (m : ℕ) : Type 0 where
  pub inside : m < length xs
  pub passes : (x : X) → slice_get xs m ≡ Some x → p x ≡ true

abbrev FoundFrom : {X : Type 0} → (X → Bool) → List X → ℕ → ℕ → Type 0
FoundFrom p xs i k = (m : ℕ) × (k ≡ i + m) × FoundAt p xs m

at_first : {X : Type 0} (p : X → Bool) (x : X) (xs : List X) → p x ≡ true → FoundAt p (x ∷ xs) 0
at_first p x xs e = record { inside = omega arith; passes = λ y is. subst (λ z. p z ≡ true) (the_same is) e }

found_later : {X : Type 0} (p : X → Bool) (x : X) (xs : List X) (i k : ℕ) → FoundFrom p xs (i + 1) k → FoundFrom p (x ∷ xs) i k
found_later p x xs i k h = (suc h.0, omega (arith, h.1), record { inside = omega (arith, h.2.inside); passes = λ y is. h.2.passes y is })

found_step : {X : Type 0} (p : X → Bool) (x : X) (xs : List X) (i k : ℕ) (b : Bool) → p x ≡ b → cond b (Some i) (position_from p (i + 1) xs) ≡ Some k → (position_from p (i + 1) xs ≡ Some k → FoundFrom p xs (i + 1) k) → FoundFrom p (x ∷ xs) i k
found_step p x xs i k true is e h = (0, omega (arith, the_same e), at_first p x xs is)
found_step p x xs i k false is e h = found_later p x xs i k (h e)

found_from : {X : Type 0} (p : X → Bool) (xs : List X) (i k : ℕ) → position_from p i xs ≡ Some k → FoundFrom p xs i k
found_from p [] i k e = nothing_there e
found_from p (x ∷ xs) i k e = found_step p x xs i k (p x) refl e (found_from p xs (i + 1) k)

pub found_at : {X : Type 0} (p : X → Bool) (xs : List X) (k : ℕ) → position_from p 0 xs ≡ Some k → FoundAt p xs k
found_at p xs k e = let h = found_from p xs 0 k e in let is : k ≡ h.0 = omega (arith, h.1) in subst (λ m. FoundAt p xs m) (sym is) h.2

pub class_within : (classes : List Class) (name : List ℕ) (c : ℕ) → class_named classes name ≡ Some c → c < length classes
class_within classes name c e = (found_at (is_class_named name) classes c e).inside

-- ---- variables

found_variable : (P : Variable → Type 0) (p : Variable → Bool) (x v : Variable) (xs : List Variable) (b : Bool) → cond b (Some x) (find p xs) ≡ Some v → P x → (find p xs ≡ Some v → P v) → P v
found_variable P p x v xs true e h k = subst P (the_same e) h
found_variable P p x v xs false e h k = k e

pub variable_at : (P : Variable → Type 0) (p : Variable → Bool) (xs : List Variable) (v : Variable) → AllByRecursion P xs → find p xs ≡ Some v → P v
variable_at P p [] v h e = nothing_there e
variable_at P p (x ∷ xs) v h e = found_variable P p x v xs (p x) e h.0 (variable_at P p xs v h.1)

-- ---- superclasses and fields

first_contained : (d : ℕ) (xs : List ℕ) → Contains (d ∷ xs) d
first_contained d xs = (0, omega arith, refl)

contained_above : (k : Option Class) (d : ℕ) → superclass k ≡ Some d → Contains (named_above k) d
contained_above None d e = nothing_there e
contained_above (Some k) d e = let P : Option ℕ → Type 0 = λ o. Contains (option_to_list o ++ k.interfaces) d in subst P (sym e) (first_contained d k.interfaces)

pub superclass_contained : (classes : List Class) (c d : ℕ) → superclass (slice_get classes c) ≡ Some d → Contains (direct_supertypes classes c) d
unfolding direct_supertypes
superclass_contained classes c d e = contained_above (slice_get classes c) d e

pub superclass_below : (classes : List Class) (c d : ℕ) → superclass (slice_get classes c) ≡ Some d → Below classes (class_type c) (class_type d)
superclass_below classes c d e = declared (superclass_contained classes c d e)

field_is_of : (c : ℕ) (name : List ℕ) (f : Field) → is_field c name f ≡ true → f.class ≡ c
field_is_of c name f e = let h = both_true (f.class == c) _ e in eqb-true f.class c h.0

declared_below : (t : Table) (c : ℕ) (name : List ℕ) (k : ℕ) (f : Field) → declared_field t.fields c name ≡ Some k → slice_get t.fields k ≡ Some f → Below t.classes (class_type c) (class_type f.class)
declared_below t c name k f e is =
    let P : ℕ → Type 0 = λ d. Below t.classes (class_type c) (class_type d) in
    subst P (sym (field_is_of c name f ((found_at (is_field c name) t.fields k e).passes f is))) same

above_below : (t : Table) (c : ℕ) (name : List ℕ) (k : ℕ) (f : Field) (x y : Option ℕ) (more : ℕ → Option ℕ) → declared_field t.fields c name ≡ x → superclass (slice_get t.classes c) ≡ y → or_above x y more ≡ Some k → slice_get t.fields k ≡ Some f →
    ((d : ℕ) → more d ≡ Some k → Below t.classes (class_type d) (class_type f.class)) → Below t.classes (class_type c) (class_type f.class)
above_below t c name k f (Some m) y more e g h is up = declared_below t c name k f (e ∙ h) is
above_below t c name k f None (Some d) more e g h is up = transitive (superclass_below t.classes c d g) (up d h)
above_below t c name k f None None more e g h is up = nothing_there h

field_below : (longest : ℕ) (t : Table) (c : ℕ) (name : List ℕ) (k : ℕ) (f : Field) → field_within longest t c name ≡ Some k → slice_get t.fields k ≡ Some f → Below t.classes (class_type c) (class_type f.class)
unfolding field_within
field_below zero t c name k f e is = nothing_there e
field_below (suc longest) t c name k f e is =
    above_below t c name k f (declared_field t.fields c name) (superclass (slice_get t.classes c)) (λ above. field_within longest t above name) refl refl e is (λ d up. field_below longest t d name k f up is)

-- a class is below the one that declares its field
pub field_class : (t : Table) (c : ℕ) (name : List ℕ) (k : ℕ) (f : Field) → field_of t c name ≡ Some k → slice_get t.fields k ≡ Some f → Below t.classes (class_type c) (class_type f.class)
field_class t c name k f e is = field_below (length t.classes) t c name k f e is
