-- What the rules on declarations say of a list of classes and of their methods.
use Rattle.std.proofs.Common.{◌≡◌, refl, sym, ◌∙◌, ap, arith, ℕ, zero, suc, ◌<◌, ◌≤◌, inl, inr, Bool, true, false, not, cond, List, [], ◌∷◌, length, Some}
use Rattle.std.specs.Prelude.{slice_get, filter}
use Rattle.std.specs.List.{Contains}
use Rattle.std.proofs.lemmas.Bool.Decides.{eqb_tells, leb_tells}
use Rattle.wy_kernel.specs.declared.types.MethodForm.TheVariants as kind
use Rattle.wy_kernel.specs.Program.{Class, Method}
use Rattle.wy_kernel.specs.Subtyping.{class_type}
use Rattle.wy_kernel.specs.Table.{Table}
use Rattle.wy_overloads.specs.Choice.{NearestHasBody}
use Rattle.wy_members.specs.Broken.{Inherits, HasWrongMethod}
use Rattle.law_program_parts.proofs.Chains.{IsAt, AreSorted}

-- no two methods of a class have one name and the same parameter types
pub record AreApart (methods : List Method) : Type 0 where
  pub apart : (i j : ℕ) (a b : Method) → i < j → slice_get methods i ≡ Some a → slice_get methods j ≡ Some b → a.class ≡ b.class → a.name ≡ b.name → a.params ≡ b.params → ⊥

abbrev pub is_open : Method → Bool
is_open m = not m.is_private

-- the methods that override and are inherited
abbrev pub open_part : List Class → List Method → Table
open_part classes methods = record { classes = classes; methods = filter is_open methods; fields = []; constants = [] }

pub record KeepRules (classes : List Class) (methods : List Method) : Type 0 where
  pub sorted : AreSorted classes
  pub apart : AreApart methods
  pub overriding : (c token : ℕ) → HasWrongMethod (open_part classes methods) c token → ⊥
  pub concrete : (c : ℕ) (row : Class) (m : Method) → IsAt classes c row → row.is_abstract ≡ false → Contains methods m → m.class ≡ c → m.is_abstract ≡ true → ⊥
  pub implemented : (c k : ℕ) (row : Class) (m : Method) → IsAt classes c row → row.is_abstract ≡ false → Inherits (open_part classes methods) c k m → (NearestHasBody (open_part classes methods) (class_type c) m → ⊥) → m.is_abstract ≡ true → ⊥
  pub of_interfaces : (k : ℕ) (m : Method) (row : Class) → slice_get methods k ≡ Some m → m.form ≡ kind.Instance → IsAt classes m.class row → row.is_interface ≡ true → m.is_abstract ≡ true
  pub among : (k : ℕ) (m : Method) → slice_get methods k ≡ Some m → m.class < length classes

-- ---- the elements of a list that pass a test

pub in_filtered : {X : Type 0} (test : X → Bool) (xs : List X) (i : ℕ) (x : X) → slice_get xs i ≡ Some x → test x ≡ true → (j : ℕ) × (slice_get (filter test xs) j ≡ Some x)
in_filtered test [] i x e t = absurd (cc)
in_filtered {X} test (y ∷ ys) zero x e t =
    let same : y ≡ x = cc in
    (0, ap (λ b. slice_get (cond b (y ∷ filter test ys) (filter test ys)) 0) (ap test same ∙ t) ∙ ap Some same)
in_filtered test (y ∷ ys) (suc i) x e t = by (test y) (in_filtered test ys i x e t)
  where
    by : (b : Bool) → (j : ℕ) × (slice_get (filter test ys) j ≡ Some x) → (j : ℕ) × (slice_get (cond b (y ∷ filter test ys) (filter test ys)) j ≡ Some x)
    by true (j, f) = (suc j, f)
    by false (j, f) = (j, f)

pub of_filtered : {X : Type 0} (test : X → Bool) (xs : List X) (j : ℕ) (x : X) → slice_get (filter test xs) j ≡ Some x → ((i : ℕ) × (slice_get xs i ≡ Some x)) × (test x ≡ true)
of_filtered test [] j x e = absurd (cc)
of_filtered {X} test (y ∷ ys) j x e = by (test y) refl j (of_filtered test ys) e
  where
    by : (b : Bool) → test y ≡ b → (j : ℕ) → ((k : ℕ) (z : X) → slice_get (filter test ys) k ≡ Some z → ((i : ℕ) × (slice_get ys i ≡ Some z)) × (test z ≡ true)) → slice_get (cond b (y ∷ filter test ys) (filter test ys)) j ≡ Some x →
        ((i : ℕ) × (slice_get (y ∷ ys) i ≡ Some x)) × (test x ≡ true)
    by true t zero later e = let same : y ≡ x = cc in ((0, ap Some same), ap test (sym same) ∙ t)
    by true t (suc k) later e = let w = later k x e in ((suc w.0.0, w.0.1), w.1)
    by false t k later e = let w = later k x e in ((suc w.0.0, w.0.1), w.1)

rest_apart : (m : Method) (rest : List Method) → AreApart (m ∷ rest) → AreApart rest
rest_apart m rest h = record { apart = λ i j a b lt. h.apart (suc i) (suc j) a b (omega (arith, lt)) }

pub filtered_apart : (test : Method → Bool) (ms : List Method) → AreApart ms → AreApart (filter test ms)
filtered_apart test [] h = h
filtered_apart test (x ∷ rest) h = record { apart = λ i j a b lt e f. by (test x) i j a b lt e f (filtered_apart test rest (rest_apart x rest h)) }
  where
    by : (t : Bool) (i j : ℕ) (a b : Method) → i < j → slice_get (cond t (x ∷ filter test rest) (filter test rest)) i ≡ Some a → slice_get (cond t (x ∷ filter test rest) (filter test rest)) j ≡ Some b → AreApart (filter test rest) →
        a.class ≡ b.class → a.name ≡ b.name → a.params ≡ b.params → ⊥
    by false i j a b lt e f later = later.apart i j a b lt e f
    by true zero zero a b lt e f later = absurd (omega arith)
    by true zero (suc j) a b lt e f later = let w = of_filtered test rest j b f in h.apart 0 (suc w.0.0) a b (omega arith) e w.0.1
    by true (suc i) zero a b lt e f later = absurd (omega arith)
    by true (suc i) (suc j) a b lt e f later = later.apart i j a b (omega (arith, lt)) e f

-- a method by its class, its name and its parameter types
pub one_method : (ms : List Method) → AreApart ms → (i j : ℕ) (a b : Method) → slice_get ms i ≡ Some a → slice_get ms j ≡ Some b → a.class ≡ b.class → a.name ≡ b.name → a.params ≡ b.params → i ≡ j
one_method ms h i j a b e f class name params =
    elim (eqb_tells i j) [
      | inl s ↦ s.1
      | inr other ↦ elim (leb_tells i j) [
        | inl le ↦ absurd (h.apart i j a b (let least : i ≤ j = le.1 in let differ : i ≡ j → ⊥ = other.1 in omega arith) e f class name params)
        | inr gt ↦ absurd (h.apart j i b a gt.1 f e (sym class) (sym name) (sym params))
      ]
    ]
