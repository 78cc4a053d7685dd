-- Texts and pieces, one part after another.
use Rattle.std.proofs.Common.{◌≡◌, ◌∙◌, ℕ, List, [], ◌∷◌, ◌++◌, refl, sym, ap, append_assoc}
use Rattle.std.specs.List.{flat_map}
use Rattle.std.proofs.lemmas.List.Concat.{flat_map-append}

-- two parts that were put one after the other
pub joined : (before between after x y : List ℕ) → between ≡ before ++ x → after ≡ between ++ y → after ≡ before ++ (x ++ y)
joined before between after x y first second = second ∙ ap (λ l. l ++ y) first ∙ append_assoc before x y

-- the same of two rows of pieces
pub both_put : {A : Type 0} (f : A → List ℕ) (before between after : List ℕ) (xs ys : List A) → between ≡ before ++ flat_map f xs → after ≡ between ++ flat_map f ys → after ≡ before ++ flat_map f (xs ++ ys)
both_put f before between after xs ys first second =
    joined before between after (flat_map f xs) (flat_map f ys) first second ∙ ap (λ l. before ++ l) (sym (flat_map-append f xs ys))

-- the bytes of what is made of each, and of all of it
pub flat_of_each : {A B : Type 0} (f : A → List ℕ) (g : B → List A) (xs : List B) → flat_map (λ x. flat_map f (g x)) xs ≡ flat_map f (flat_map g xs)
flat_of_each f g [] = refl
flat_of_each f g (x ∷ xs) = ap (λ l. flat_map f (g x) ++ l) (flat_of_each f g xs) ∙ sym (flat_map-append f (g x) (flat_map g xs))
