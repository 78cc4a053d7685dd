-- Lists that grow at their end, with what follows them.
use Rattle.std.proofs.Common.{◌≡◌, List, [], ◌∷◌, ◌++◌, map, refl, ap, sym, ◌∙◌, Result, IfOk}
use Rattle.std.proofs.lemmas.Result.{IfOk-weaker}

-- a list with one more at its end, and what follows
pub grown : {A B : Type 0} (f : A → B) (found more : List A) (x : A) (e : B) (rest all : List B)
    → more ≡ found ++ (x ∷ []) → f x ≡ e → map f found ++ (e ∷ rest) ≡ all → map f more ++ rest ≡ all
grown {A} {B} f found more x e rest all eg ex h =
    ap (λ z. map f z ++ rest) eg ∙ pushed found ∙ ap (λ z. map f found ++ (z ∷ rest)) ex ∙ h
  where
    pushed : (xs : List A) → map f (xs ++ (x ∷ [])) ++ rest ≡ map f xs ++ (f x ∷ rest)
    pushed [] = refl
    pushed (y ∷ ys) = ap (λ z. f y ∷ z) (pushed ys)

-- a list that was just begun
pub nothing : {A B : Type 0} (f : A → B) (start : List A) (all : List B) → start ≡ [] → [] ≡ all → map f start ≡ all
nothing f start all es h = ap (map f) es ∙ h

-- what is said of a value, said of what equals it
pub carried : {X E Y : Type 0} (r : Result X E) (f : X → Y) (a b : Y) → a ≡ b → IfOk r (λ x. f x ≡ a) → IfOk r (λ x. f x ≡ b)
carried r f a b e h = IfOk-weaker r _ _ (λ x p. p ∙ e) h
