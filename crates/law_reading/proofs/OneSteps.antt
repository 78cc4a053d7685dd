-- The frames of bytes stand one after another in one way.
use Rattle.std.proofs.Common.{◌≡◌, ◌⊎◌, ℕ, List, refl, sym, subst, inl, inr}
use Rattle.wy_payload.specs.declared.ranges.Ranges.{Ranges}
use Rattle.wy_frames.specs.Progress.{Progress}
use Rattle.wy_frames.specs.Scan.{Turn, Waits, Goes, Fails, turn, Leaves, nothing, frame}

-- no frame more stands
abbrev pub Settles : Turn → Type 0
Settles Waits = Unit {0}
Settles (Goes t rest) = ⊥
Settles (Fails e) = Unit {0}

-- what stands, and what is left
pub record Place : Type 0 where
  pub standing : Progress
  pub left : List ℕ

abbrev at : Progress → List ℕ → Place
at s rest = record { standing = s; left = rest }

pair : (s t : Progress) (rest others : List ℕ) → s ≡ t → rest ≡ others → at s rest ≡ at t others
pair s t rest others p q = λ i. record { standing = p i; left = q i }

same_goal : (u t : Progress) (rest others : List ℕ) (turn : Turn) → turn ≡ Goes u rest → turn ≡ Goes t others → (u ≡ t) × (rest ≡ others)
same_goal u t rest others turn e f = (cc, cc)

module _ (r : Ranges) (steps : ℕ) where
  -- nothing more stands, or one frame and then the others
  first_step : (s : Progress) (bytes : List ℕ) (t : Progress) (rest : List ℕ) → Leaves r steps s bytes t rest → ((s ≡ t) × (bytes ≡ rest)) ⊎ ((u : Progress) × (left : List ℕ) × (turn r steps s bytes ≡ Goes u left) × Leaves r steps u left t rest)
  first_step s bytes _ _ nothing = inl (refl, refl)
  first_step s bytes _ _ (frame s0 r0 t rest before e) = after (first_step s bytes s0 r0 before)
    where
      after : ((s ≡ s0) × (bytes ≡ r0)) ⊎ ((u : Progress) × (left : List ℕ) × (turn r steps s bytes ≡ Goes u left) × Leaves r steps u left s0 r0) → ((s ≡ t) × (bytes ≡ rest)) ⊎ ((u : Progress) × (left : List ℕ) × (turn r steps s bytes ≡ Goes u left) × Leaves r steps u left t rest)
      after (inl same) = inr (t, rest, subst (λ (q : Place). turn r steps q.standing q.left ≡ Goes t rest) (sym (pair s s0 bytes r0 same.0 same.1)) e, nothing)
      after (inr one) = inr (one.0, one.1, one.2, frame s0 r0 t rest one.3 e)

  -- of two places that bytes lead to, one leads to the other
  compare : (s : Progress) (bytes : List ℕ) (t : Progress) (rest : List ℕ) (u : Progress) (others : List ℕ) → Leaves r steps s bytes t rest → Leaves r steps s bytes u others → Leaves r steps t rest u others ⊎ Leaves r steps u others t rest
  compare s bytes _ _ u others nothing second = inl second
  compare s bytes _ _ u others (frame s0 r0 t rest before e) second = after (compare s bytes s0 r0 u others before second)
    where
      stepped : ((s0 ≡ u) × (r0 ≡ others)) ⊎ ((v : Progress) × (left : List ℕ) × (turn r steps s0 r0 ≡ Goes v left) × Leaves r steps v left u others) → Leaves r steps t rest u others ⊎ Leaves r steps u others t rest
      stepped (inl same) = inr (frame u others t rest nothing (subst (λ (q : Place). turn r steps q.standing q.left ≡ Goes t rest) (pair s0 u r0 others same.0 same.1) e))
      stepped (inr one) = let goal = same_goal one.0 t one.1 rest (turn r steps s0 r0) one.2 e in inl (subst (λ (q : Place). Leaves r steps q.standing q.left u others) (pair one.0 t one.1 rest goal.0 goal.1) one.3)

      after : Leaves r steps s0 r0 u others ⊎ Leaves r steps u others s0 r0 → Leaves r steps t rest u others ⊎ Leaves r steps u others t rest
      after (inl further) = stepped (first_step s0 r0 u others further)
      after (inr back) = inr (frame s0 r0 t rest back e)

  settled : (t : Progress) (rest : List ℕ) (u : Progress) (others : List ℕ) → Settles (turn r steps t rest) → Leaves r steps t rest u others → (t ≡ u) × (rest ≡ others)
  settled t rest u others settles more = after (first_step t rest u others more)
    where
      after : ((t ≡ u) × (rest ≡ others)) ⊎ ((v : Progress) × (left : List ℕ) × (turn r steps t rest ≡ Goes v left) × Leaves r steps v left u others) → (t ≡ u) × (rest ≡ others)
      after (inl same) = same
      after (inr one) = absurd (subst (λ (x : Turn). Settles x) one.2 settles)

  -- where no frame more stands at either, they are one place
  pub one_end : (s : Progress) (bytes : List ℕ) (t : Progress) (rest : List ℕ) (u : Progress) (others : List ℕ) → Leaves r steps s bytes t rest → Leaves r steps s bytes u others → Settles (turn r steps t rest) → Settles (turn r steps u others) → (t ≡ u) × (rest ≡ others)
  one_end s bytes t rest u others first second stops ends = after (compare s bytes t rest u others first second)
    where
      after : Leaves r steps t rest u others ⊎ Leaves r steps u others t rest → (t ≡ u) × (rest ≡ others)
      after (inl further) = settled t rest u others stops further
      after (inr back) = let same = settled u others t rest ends back in (sym same.0, sym same.1)
