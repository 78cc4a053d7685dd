-- Facts that hold or don't, and what is decided of facts that are put together.
use Rattle.std.proofs.Common.{◌≡◌, ℕ, zero, suc, ◌<◌, Bool, true, false, List, [], ◌∷◌, length, Some, refl, subst, arith, ◌⊎◌, inl, inr, IsTrue, ◌↔◌}
use Rattle.std.specs.Prelude.{slice_get, ◌==◌}
use Rattle.std.specs.List.{Contains}
use Rattle.std.proofs.lemmas.Bool.Decides.{Decides-eqb}
use Rattle.std.proofs.lemmas.Slice.Eq.{bytes_eq-Decides}

abbrev pub Decided : Type 0 → Type 0
Decided P = P ⊎ (P → ⊥)

pub by_test : {P : Type 0} (r : Bool) → IsTrue r ↔ P → Decided P
by_test true d = inl (d.0 refl)
by_test false d = inr (λ p. let e : false ≡ true = d.1 p in cc)

unfoldable pub test_of : {P : Type 0} → Decided P → Bool
test_of d = elim d [ inl p ↦ true | inr n ↦ false ]

pub test_exact : {P : Type 0} (d : Decided P) → IsTrue (test_of d) ↔ P
unfolding test_of
test_exact (inl p) = (λ _. p, λ _. refl)
test_exact (inr n) = (λ e. let no : false ≡ true = e in absurd (cc), λ p. absurd (n p))

pub like : {P Q : Type 0} → (P → Q) → (Q → P) → Decided P → Decided Q
like f g (inl p) = inl (f p)
like f g (inr n) = inr (λ q. n (g q))

pub both : {P Q : Type 0} → Decided P → Decided Q → Decided (P × Q)
both (inl p) (inl q) = inl (p, q)
both (inl p) (inr n) = inr (λ h. n h.1)
both (inr n) d = inr (λ h. n h.0)

pub either : {P Q : Type 0} → Decided P → Decided Q → Decided (P ⊎ Q)
either (inl p) d = inl (inl p)
either (inr n) (inl q) = inl (inr q)
either (inr n) (inr m) = inr (λ h. elim h [ inl p ↦ n p | inr q ↦ m q ])

pub denied : {P : Type 0} → Decided P → Decided (P → ⊥)
denied (inl p) = inr (λ n. n p)
denied (inr n) = inl n

pub implied : {P Q : Type 0} → Decided P → Decided Q → Decided (P → Q)
implied (inl p) (inl q) = inl (λ _. q)
implied (inl p) (inr n) = inr (λ f. n (f p))
implied (inr n) d = inl (λ p. absurd (n p))

-- ---- numbers and names

pub same_number : (m n : ℕ) → Decided (m ≡ n)
same_number m n = by_test (m == n) (Decides-eqb m n)

pub same_name : (a b : List ℕ) → Decided (a ≡ b)
same_name a b = by_test _ (bytes_eq-Decides a b)

pub is_false : (b : Bool) → Decided (b ≡ false)
is_false true = inr (λ e. cc)
is_false false = inl refl

-- ---- lists

here_or : {X : Type 0} (P : ℕ → X → Type 0) (y : X) (ys : List X) → P 0 y → ((k : ℕ) (x : X) → slice_get ys k ≡ Some x → P (suc k) x) →
    (k : ℕ) (x : X) → slice_get (y ∷ ys) k ≡ Some x → P k x
here_or {X} P y ys p q zero x e = let same : y ≡ x = cc in let Q : X → Type 0 = λ z. P 0 z in subst Q same p
here_or P y ys p q (suc k) x e = q k x e

-- of each element and its place
pub each : {X : Type 0} (P : ℕ → X → Type 0) (xs : List X) → ((k : ℕ) (x : X) → Decided (P k x)) → Decided ((k : ℕ) (x : X) → slice_get xs k ≡ Some x → P k x)
each P [] d = inl (λ k x e. absurd (cc))
each P (y ∷ ys) d =
    elim (d 0 y) [
      | inr n ↦ inr (λ f. n (f 0 y refl))
      | inl p ↦ elim (each (λ k x. P (suc k) x) ys (λ k x. d (suc k) x)) [
        | inr n ↦ inr (λ f. n (λ k x e. f (suc k) x e))
        | inl q ↦ inl (here_or P y ys p q)
      ]
    ]

-- some element with its place
abbrev pub Some_at : {X : Type 0} → (ℕ → X → Type 0) → List X → Type 0
Some_at {X} P xs = (k : ℕ) × (x : X) × (slice_get xs k ≡ Some x) × P k x

later : {X : Type 0} (P : ℕ → X → Type 0) (y : X) (ys : List X) → Some_at (λ k x. P (suc k) x) ys → Some_at P (y ∷ ys)
later P y ys (k, x, e, p) = (suc k, x, e, p)

not_here : {X : Type 0} (P : ℕ → X → Type 0) (y : X) (ys : List X) → (P 0 y → ⊥) → (Some_at (λ k x. P (suc k) x) ys → ⊥) → Some_at P (y ∷ ys) → ⊥
not_here {X} P y ys n m (zero, x, e, p) = let same : x ≡ y = cc in let Q : X → Type 0 = λ z. P 0 z in n (subst Q same p)
not_here P y ys n m (suc k, x, e, p) = m (k, x, e, p)

pub some : {X : Type 0} (P : ℕ → X → Type 0) (xs : List X) → ((k : ℕ) (x : X) → Decided (P k x)) → Decided (Some_at P xs)
some P [] d = inr (λ (k, x, e, p). let no : ⊥ = cc in no)
some P (y ∷ ys) d =
    elim (d 0 y) [
      | inl p ↦ inl (0, y, refl, p)
      | inr n ↦ elim (some (λ k x. P (suc k) x) ys (λ k x. d (suc k) x)) [
        | inl q ↦ inl (later P y ys q)
        | inr m ↦ inr (not_here P y ys n m)
      ]
    ]

absent_further : (x d : ℕ) (xs : List ℕ) → (x ≡ d → ⊥) → (Contains xs d → ⊥) → Contains (x ∷ xs) d → ⊥
absent_further x d xs n m (zero, lt, e) = n e
absent_further x d xs n m (suc k, lt, e) = m (k, omega arith, e)

pub contains : (xs : List ℕ) (d : ℕ) → Decided (Contains xs d)
contains [] d = inr (λ (k, lt, e). let no : ⊥ = omega arith in no)
contains (x ∷ xs) d =
    elim (same_number x d) [
      | inl e ↦ inl (0, omega arith, e)
      | inr n ↦ elim (contains xs d) [
        | inl h ↦ inl (suc h.0, (let lt : h.0 < length xs = h.1 in omega arith), h.2)
        | inr m ↦ inr (absent_further x d xs n m)
      ]
    ]
