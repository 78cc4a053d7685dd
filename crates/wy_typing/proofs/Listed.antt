-- What holds of each in a list: of parts of it, of lists one after another, and of each statement of a body.
use Rattle.std.proofs.Common.{◌≡◌, ℕ, zero, suc, List, [], ◌∷◌, ◌++◌, Option, Some, subst}
use Rattle.std.specs.Prelude.{slice_get}
use Rattle.std.specs.List.{AllByRecursion}
use Rattle.wy_kernel.specs.Form.{Statement}
use Rattle.wy_kernel.specs.Program.{Body}
use Rattle.wy_kernel.specs.Statements.{statements, statements_of_body, statements_of_bodies}

module _ {X : Type 0} (P : X → Type 0) where
  -- of those in front, and of those behind
  pub parted : (xs ys : List X) → AllByRecursion P (xs ++ ys) → AllByRecursion P xs × AllByRecursion P ys
  parted [] ys h = (tt, h)
  parted (x ∷ xs) ys h = let rest = parted xs ys h.1 in ((h.0, rest.0), rest.1)

  pub joined : (xs ys : List X) → AllByRecursion P xs → AllByRecursion P ys → AllByRecursion P (xs ++ ys)
  joined [] ys h i = i
  joined (x ∷ xs) ys h i = (h.0, joined xs ys h.1 i)

  pub weaker : (Q : X → Type 0) → ((x : X) → P x → Q x) → (xs : List X) → AllByRecursion P xs → AllByRecursion Q xs
  weaker Q so [] h = tt
  weaker Q so (x ∷ xs) h = (so x h.0, weaker Q so xs h.1)

  pub zipped : (Q : X → Type 0) → (xs : List X) → AllByRecursion P xs → AllByRecursion Q xs → AllByRecursion (λ x. P x × Q x) xs
  zipped Q [] h i = tt
  zipped Q (x ∷ xs) h i = ((h.0, i.0), zipped Q xs h.1 i.1)

module _ (P : Statement → Type 0) where
  -- of those of one of the bodies
  pub in_body : (bs : List (Option Body)) (k : ℕ) (b : Body) → slice_get bs k ≡ Some (Some b) → AllByRecursion P (statements_of_bodies bs) → AllByRecursion P (statements b.block)
  in_body [] k b e h = absurd (cc)
  in_body (x ∷ rest) zero b e h = let same : x ≡ Some b = cc in subst (λ (y : Option Body). AllByRecursion P (statements_of_body y)) same (parted P (statements_of_body x) (statements_of_bodies rest) h).0
  in_body (x ∷ rest) (suc k) b e h = in_body rest k b e (parted P (statements_of_body x) (statements_of_bodies rest) h).1
