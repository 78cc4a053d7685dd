-- The last of a list, which is the first of the list that is turned; and numbers that are events.
use Rattle.std.proofs.Common.{◌≡◌, ◌-◌, ◌<◌, ℕ, ◌+◌, List, [], ◌∷◌, ◌++◌, length, take, get_or, reverse, Some, slice_get, refl, sym, ap, ◌∙◌, arith, add-one, inl, inr}
use Rattle.std.specs.Prelude.{None as Absent}
use Rattle.std.proofs.lemmas.Bool.Decides.{eqb_tells}
use Rattle.std.proofs.lemmas.List.{take_more, reverse-append}
use Rattle.std.proofs.lemmas.Option.{get_or_from_slice_get, slice_get-get_or}
use Rattle.std.proofs.Math.Seq.{take-length}
use Rattle.wy_kernel.specs.View.{present}

-- what a list is whose last element is known
pub split_at_last : {X : Type 0} (xs : List X) (x : X) → slice_get xs (length xs - 1) ≡ Some x → xs ≡ take (length xs - 1) xs ++ x ∷ []
split_at_last [] x is = cc
split_at_last (k ∷ ks) x is =
    let n : ℕ = length ks in
    let e : length (k ∷ ks) - 1 ≡ n = omega arith in
    let whole : take (n + 1) (k ∷ ks) ≡ k ∷ ks = rw add-one (take-length (k ∷ ks)) in
    let at : get_or (k ∷ ks) n x ≡ x = get_or_from_slice_get (k ∷ ks) n x x (rw e at is) in
    rw e (sym whole ∙ take_more (k ∷ ks) n x (omega arith) ∙ ap (λ y. take n (k ∷ ks) ++ y ∷ []) at)

pub turned : {X : Type 0} (xs : List X) (x : X) (rest : List X) → xs ≡ rest ++ x ∷ [] → reverse xs ≡ x ∷ reverse rest
turned xs x rest is = ap reverse is ∙ reverse-append rest (x ∷ [])

pub last_is_first : {X : Type 0} (xs : List X) (x : X) → slice_get xs (length xs - 1) ≡ Some x → reverse xs ≡ x ∷ reverse (take (length xs - 1) xs)
last_is_first xs x is = turned xs x (take (length xs - 1) xs) (split_at_last xs x is)

pub none_is_last : {X : Type 0} (xs : List X) → slice_get xs (length xs - 1) ≡ Absent → xs ≡ []
none_is_last [] is = refl
none_is_last (k ∷ ks) is = let there : slice_get (k ∷ ks) (length (k ∷ ks) - 1) ≡ Some (get_or (k ∷ ks) (length (k ∷ ks) - 1) k) = slice_get-get_or (k ∷ ks) (length (k ∷ ks) - 1) k (omega arith) in cc

pub is_present : (n : ℕ) → n < 4294967295 → present n ≡ Some n
unfolding present
is_present n lt = elim (eqb_tells n 4294967295) as (λ _. present n ≡ Some n) [ inl a ↦ absurd (omega (arith, a.1)) | inr b ↦ rw b.0 refl ]

pub nobody_is_absent : present 4294967295 ≡ Absent
unfolding present
nobody_is_absent = refl
