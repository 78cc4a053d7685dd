-- The front of a list and what is behind it.
use Rattle.std.proofs.Common.{◌≡◌, ℕ, ◌+◌, List, ◌++◌, length, take, drop, sym, ◌∙◌, ap, subst}
use Rattle.std.proofs.lemmas.List.{take-append-drop, drop-drop}
use Rattle.std.proofs.Math.Seq.{drop-append_seam}

-- a list is its front, and then what is behind as many elements as the front has
front_and_rest : (max : ℕ) (xs : List ℕ) → xs ≡ take max xs ++ drop (length (take max xs)) xs
front_and_rest max xs =
    let parts = take-append-drop max xs in
    let rest = sym (drop-append_seam (take max xs) (drop max xs)) ∙ ap (λ t. drop (length (take max xs)) t) parts in
    sym parts ∙ ap (λ t. take max xs ++ t) rest

-- what is left from a place on is the next piece, and then what is left from behind it
pub piece_and_rest : (at max : ℕ) (xs piece : List ℕ) → piece ≡ take max (drop at xs) → drop at xs ≡ piece ++ drop (at + length piece) xs
piece_and_rest at max xs piece is_front =
    let whole = front_and_rest max (drop at xs) ∙ ap (λ t. take max (drop at xs) ++ t) (drop-drop (length (take max (drop at xs))) at xs) in
    let P : List ℕ → Type 0 = λ t. drop at xs ≡ t ++ drop (at + length t) xs in
    subst P (sym is_front) whole
