-- A list that grows along another.
use Rattle.std.proofs.Common.{◌≡◌, ◌+◌, ◌<◌, ◌∙◌, ◌++◌, ◌∷◌, [], ℕ, Bool, true, false, cond, List, length, get_or, map, take, refl, sym, ap, ap₂}
use Rattle.std.specs.Prelude.{filter}
use Rattle.std.proofs.lemmas.List.{append-nil, map-append, take_more}
use Rattle.std.proofs.lemmas.List.Elements.{filter_more}

pub map_next : {X Y : Type 0} (f : X → Y) (xs : List X) (i : ℕ) (d : X) (ys zs : List Y) (y : Y) → i < length xs
    → ys ≡ map f (take i xs) → zs ≡ ys ++ y ∷ [] → y ≡ f (get_or xs i d) → zs ≡ map f (take (i + 1) xs)
map_next f xs i d ys zs y lt before push at =
    push ∙ ap₂ (λ l z. l ++ z ∷ []) before at ∙ sym (map-append f (take i xs) (get_or xs i d ∷ [])) ∙ sym (ap (map f) (take_more xs i d lt))

pub filter_next : {X : Type 0} (test : X → Bool) (xs : List X) (i : ℕ) (d : X) (ys zs : List X) → i < length xs
    → ys ≡ filter test (take i xs) → test (get_or xs i d) ≡ true → zs ≡ ys ++ get_or xs i d ∷ [] → zs ≡ filter test (take (i + 1) xs)
filter_next test xs i d ys zs lt before passes push =
    push ∙ ap (λ l. l ++ get_or xs i d ∷ []) before ∙ ap (λ b. filter test (take i xs) ++ cond b (get_or xs i d ∷ []) []) (sym passes) ∙ sym (filter_more test xs i d lt)

pub filter_pass : {X : Type 0} (test : X → Bool) (xs : List X) (i : ℕ) (d : X) (ys : List X) → i < length xs
    → ys ≡ filter test (take i xs) → test (get_or xs i d) ≡ false → ys ≡ filter test (take (i + 1) xs)
filter_pass test xs i d ys lt before fails =
    before ∙ sym (append-nil (filter test (take i xs))) ∙ ap (λ b. filter test (take i xs) ++ cond b (get_or xs i d ∷ []) []) (sym fails) ∙ sym (filter_more test xs i d lt)

-- what is kept grows by what is read of the kept
pub kept_next : {X Y : Type 0} (f : X → Y) (test : X → Bool) (xs : List X) (i : ℕ) (d : X) (ys zs : List Y) → i < length xs
    → ys ≡ map f (filter test (take i xs)) → test (get_or xs i d) ≡ true → zs ≡ ys ++ f (get_or xs i d) ∷ [] → zs ≡ map f (filter test (take (i + 1) xs))
kept_next f test xs i d ys zs lt before passes push =
    push ∙ ap (λ l. l ++ f (get_or xs i d) ∷ []) before ∙ sym (map-append f (filter test (take i xs)) (get_or xs i d ∷ []))
    ∙ ap (map f) (filter_next test xs i d (filter test (take i xs)) (filter test (take i xs) ++ get_or xs i d ∷ []) lt refl passes refl)

pub both_next : {X Y Z : Type 0} (f : Y → Z) (g : X → Z) (xs : List X) (i : ℕ) (d : X) (ys zs : List Y) (y : Y) → i < length xs
    → map f ys ≡ map g (take i xs) → zs ≡ ys ++ y ∷ [] → f y ≡ g (get_or xs i d) → map f zs ≡ map g (take (i + 1) xs)
both_next f g xs i d ys zs y lt before push at = map_next g xs i d (map f ys) (map f zs) (f y) lt before (ap (map f) push ∙ map-append f ys (y ∷ [])) at
