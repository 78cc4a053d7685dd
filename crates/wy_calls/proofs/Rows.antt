-- The methods of a program class by class: where the first of each class is, and where the next.
use Rattle.std.proofs.Common.{◌≡◌, ◌<◌, ◌≤◌, ℕ, ◌+◌, true, false, List, [], ◌∷◌, length, get_or, drop, map, Some, refl, sym, ap, ◌∙◌, arith, inl, inr}
use Rattle.std.specs.Prelude.{None as Absent, ◌⊎◌, nat_eq}
use Rattle.std.specs.List.{All}
use Rattle.std.proofs.lemmas.List.Elements.{All-head, All-tail}
use Rattle.std.proofs.lemmas.Bool.Decides.{eqb_tells}
use Rattle.std.proofs.lemmas.List.{drop-drop, drop_more, get_or-drop, get_or_default, length-drop}
use Rattle.wy_kernel.specs.Program.{Method, runs_as, declared_in}
use Rattle.wy_kernel.specs.declared.types.Method.{Method as Row}
use Rattle.wy_kernel.specs.View.{method_of, NONE}
use Rattle.wy_calls.specs.Dispatch.{first_in, HasNexts}
use Rattle.wy_calls.proofs.Chain.{is_found, is_passed, none_is_left}

-- where a search through the methods of a class has come: past all of them, or to one from which on it finds what it looks for
pub data Position (ms : List Row) (c : ℕ) (m : Method) (n : ℕ) : Type 0 where
  Past : n ≡ NONE → declared_in c m 0 (map method_of ms) ≡ Absent → Position ms c m n
  At : n < length ms → ((d : Row) → (get_or ms n d).class ≡ c) → declared_in c m n (map method_of (drop n ms)) ≡ declared_in c m 0 (map method_of ms) → Position ms c m n

not_of_the_class : (c : ℕ) (m : Method) (x : Row) → nat_eq x.class c ≡ false → runs_as c m (method_of x) ≡ false
unfolding runs_as
not_of_the_class c m x is = rw is refl

-- none of them is of a class behind all theirs
pub none_is_of : (c k n : ℕ) (m : Method) (xs : List Row) → All (λ x. x.class < k) xs → k ≤ c → declared_in c m n (map method_of xs) ≡ Absent
none_is_of c k n m [] h le = none_is_left c n m
none_is_of c k n m (x ∷ xs) h le =
    let low : x.class < k = All-head (λ y. y.class < k) x xs h in
    let other : nat_eq x.class c ≡ false = elim (eqb_tells x.class c) as (λ _. nat_eq x.class c ≡ false) [ inl a ↦ absurd (omega (arith, a.1, low, le)) | inr b ↦ b.0 ] in
    is_passed c n m (method_of x) (map method_of xs) (not_of_the_class c m x other) ∙ none_is_of c k (n + 1) m xs (All-tail (λ y. y.class < k) x xs h) le

module _ (ms : List Row) (c : ℕ) (m : Method) where
  begins_with : (k : ℕ) (x : Row) (xs : List Row) → drop k ms ≡ x ∷ xs → (k < length ms) × ((d : Row) → get_or ms k d ≡ x) × (drop (k + 1) ms ≡ xs)
  begins_with k x xs is = (
    omega (arith, length-drop k ms, ap length is),
    (λ d. (let e : k ≡ k + 0 = omega arith in ap (λ j. get_or ms j d) e) ∙ sym (get_or-drop k ms 0 d) ∙ ap (λ ys. get_or ys 0 d) is),
    sym (drop-drop 1 k ms) ∙ ap (drop 1) is,
  )

  go : (xs : List Row) (k : ℕ) → drop k ms ≡ xs → declared_in c m k (map method_of xs) ≡ declared_in c m 0 (map method_of ms) → Position ms c m (first_in c k xs)
  go [] k is same = Past refl (sym same ∙ none_is_left c k m)
  go (x ∷ xs) k is same = elim (eqb_tells x.class c) as (λ _. Position ms c m (first_in c k (x ∷ xs))) [
    | inl a ↦
        let there = begins_with k x xs is in
        rw a.0 (At there.0 (λ d. ap (λ y. y.class) (there.1 d) ∙ a.1) (ap (λ ys. declared_in c m k (map method_of ys)) is ∙ same))
    | inr b ↦
        rw b.0 (go xs (k + 1) (begins_with k x xs is).2 (sym (is_passed c k m (method_of x) (map method_of xs) (not_of_the_class c m x b.0)) ∙ same))
  ]

  pub starts : Position ms c m (first_in c 0 ms)
  starts = go ms 0 refl refl

  -- a method that isn't what is looked for is passed
  pub passes : (n : ℕ) (x : Row) → Position ms c m n → n < length ms → length ms < NONE → x ≡ get_or ms n x → runs_as c m (method_of x) ≡ false → Position ms c m (first_in c (n + 1) (drop (n + 1) ms))
  passes n x (Past is none) lt few here other = absurd (omega (arith, is))
  passes n x (At inside of_class same) lt few here other =
      let split : drop n ms ≡ x ∷ drop (n + 1) ms = drop_more ms n x lt ∙ ap (λ y. y ∷ drop (n + 1) ms) (sym here) in
      go (drop (n + 1) ms) (n + 1) refl
      (sym (is_passed c n m (method_of x) (map method_of (drop (n + 1) ms)) other) ∙ ap (λ ys. declared_in c m n (map method_of ys)) (sym split) ∙ same)

  pub found_at : (n : ℕ) (x : Row) → Position ms c m n → n < length ms → length ms < NONE → x ≡ get_or ms n x → runs_as c m (method_of x) ≡ true → Some n ≡ declared_in c m 0 (map method_of ms)
  found_at n x (Past is none) lt few here yes_it_is = absurd (omega (arith, is))
  found_at n x (At inside of_class same) lt few here yes_it_is =
      let split : drop n ms ≡ x ∷ drop (n + 1) ms = drop_more ms n x lt ∙ ap (λ y. y ∷ drop (n + 1) ms) (sym here) in
      sym (is_found c n m (method_of x) (map method_of (drop (n + 1) ms)) yes_it_is) ∙ ap (λ ys. declared_in c m n (map method_of ys)) (sym split) ∙ same

  pub class_is : (n : ℕ) (d : Row) → Position ms c m n → n < length ms → length ms < NONE → (get_or ms n d).class ≡ c
  class_is n d (Past is none) lt few = absurd (omega (arith, is))
  class_is n d (At inside of_class same) lt few = of_class d

  pub is_inside : (n : ℕ) → Position ms c m n → (n ≡ NONE → ⊥) → n < length ms
  is_inside n (Past is none) other = absurd (other is)
  is_inside n (At inside of_class same) other = inside

  -- what is kept as the next method of a class is that
  pub next_is : (next : List ℕ) (n v : ℕ) (x : Row) → HasNexts ms next 0 → length next ≡ length ms → Position ms c m n → n < length ms → length ms < NONE → v ≡ get_or next n v → v ≡ first_in c (n + 1) (drop (n + 1) ms)
  next_is next n v x h long p lt few is =
      is ∙ get_or_default next n v NONE (omega (arith, long)) ∙ h n x (omega arith) lt ∙ ap (λ k. first_in k (n + 1) (drop (n + 1) ms)) (class_is n x p lt few)

-- the next one comes later
pub later : (c n : ℕ) (ms : List Row) → n + length ms ≤ NONE → (n ≤ first_in c n ms) × (first_in c n ms ≤ NONE)
later c n [] le = (omega arith, omega arith)
later c n (x ∷ xs) le = one (eqb_tells x.class c) (later c (n + 1) xs (omega arith))
  where
    one : ((nat_eq x.class c ≡ true) × (x.class ≡ c)) ⊎ ((nat_eq x.class c ≡ false) × (x.class ≡ c → ⊥)) → (n + 1 ≤ first_in c (n + 1) xs) × (first_in c (n + 1) xs ≤ NONE)
        → (n ≤ first_in c n (x ∷ xs)) × (first_in c n (x ∷ xs) ≤ NONE)
    one (inl a) rest = rw a.0 (omega arith, omega arith)
    one (inr b) rest = rw b.0 (omega (arith, rest.0), rest.1)
