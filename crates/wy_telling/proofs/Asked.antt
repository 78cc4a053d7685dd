-- The lines of what can be asked, one more at a time.
use Rattle.std.proofs.Common.{◌≡◌, ◌∙◌, ◌+◌, ◌<◌, ℕ, List, [], ◌∷◌, ◌++◌, length, take, get_or, sym, ap, subst}
use Rattle.std.specs.Prelude.{All}
use Rattle.std.specs.List.{flat_map}
use Rattle.std.proofs.lemmas.List.{append-nil, take_more}
use Rattle.std.proofs.lemmas.List.Concat.{flat_map-append}
use Rattle.wy_ask.specs.declared.asking.Listed.{Listed}
use Rattle.wy_ask.specs.Listing.{IsListedBelow}

pub one_line : {X : Type 0} (f : X → List ℕ) (xs : List X) (i : ℕ) (d : X) (text more : List ℕ) → i < length xs → text ≡ flat_map f (take i xs) → more ≡ text ++ f (get_or xs i d) → more ≡ flat_map f (take (i + 1) xs)
one_line f xs i d text more lt so_far is =
    is ∙ ap (λ t. t ++ f (get_or xs i d)) so_far
    ∙ sym (ap (flat_map f) (take_more xs i d lt) ∙ flat_map-append f (take i xs) (get_or xs i d ∷ []) ∙ ap (λ l. flat_map f (take i xs) ++ l) (append-nil (f (get_or xs i d))))

pub below_at : (m n : ℕ) (xs : List Listed) (i : ℕ) (d : Listed) → m ≡ n → All (IsListedBelow n) xs → i < length xs → IsListedBelow m (get_or xs i d)
below_at m n xs i d same all lt = subst (λ k. IsListedBelow k (get_or xs i d)) (sym same) (all i d lt)
