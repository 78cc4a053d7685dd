-- One record more.
use Rattle.std.proofs.Common.{◌≡◌, ◌⊎◌, inl, inr, ℕ, zero, suc, ◌+◌, ◌<◌, Bool, true, false, List, [], ◌∷◌, ◌++◌, length, map, get_or, Option, Some, None, refl, sym, ap, ap₂, ◌∙◌, append-nil, append_assoc, add-zero, ⊎_elim, arith}
use Rattle.std.specs.Prelude.{slice_get, if◌then◌else◌}
use Rattle.std.proofs.lemmas.Option.{none-some}
use Rattle.std.proofs.lemmas.List.{get_or_past}
use Rattle.wy_event.specs.Record.{Recorded}
use Rattle.wy_kernel.specs.View.{NONE}
use Rattle.wy_event.specs.Sources.{or_else}
use Rattle.wy_view.specs.References.{OptionBelow}
use Rattle.wy_index.specs.Found.{gathered, first_from, body_of, body_at, caller_in}

module _ {X : Type 0} where
  pub slice_get_front : (xs ys : List X) (k : ℕ) → k < length xs → slice_get (xs ++ ys) k ≡ slice_get xs k
  slice_get_front [] ys k lt = absurd (omega arith)
  slice_get_front (x ∷ xs) ys zero lt = refl
  slice_get_front (x ∷ xs) ys (suc k) lt = slice_get_front xs ys k (omega arith)

  pub slice_get_more : (xs : List X) (y : X) (k : ℕ) (z : X) → slice_get (xs ++ y ∷ []) k ≡ Some z → (slice_get xs k ≡ Some z) ⊎ ((k ≡ length xs) × (y ≡ z))
  slice_get_more [] y zero z is = inr (refl, cc)
  slice_get_more [] y (suc k) z is = absurd (none-some z is)
  slice_get_more (x ∷ xs) y zero z is = inl is
  slice_get_more (x ∷ xs) y (suc k) z is = ⊎_elim (λ h. inl h) (λ h. inr (ap suc h.0, h.1)) (slice_get_more xs y k z is)

module _ {X : Type 0} (f : ℕ → Recorded → List X) where
  pub gathered_more : (n : ℕ) (rs : List Recorded) (r : Recorded) → gathered f n (rs ++ r ∷ []) ≡ gathered f n rs ++ f (n + length rs) r
  gathered_more n [] r = append-nil (f n r) ∙ ap (λ k. f k r) (sym (add-zero n))
  gathered_more n (s ∷ rs) r =
      let place : suc n + length rs ≡ n + suc (length rs) = omega arith in
      ap (λ l. f n s ++ l) (gathered_more (suc n) rs r ∙ ap (λ k. gathered f (suc n) rs ++ f k r) place)
      ∙ sym (append_assoc (f n s) (gathered f (suc n) rs) (f (n + suc (length rs)) r))

  -- what they give stays where it does for each of them
  pub gathered_same : (g : ℕ → Recorded → List X) (n : ℕ) (rs : List Recorded) → ((k : ℕ) (r : Recorded) → slice_get rs k ≡ Some r → f (n + k) r ≡ g (n + k) r) → gathered f n rs ≡ gathered g n rs
  gathered_same g n [] same = refl
  gathered_same g n (r ∷ rs) same =
      ap₂ (λ a b. a ++ b)
      (ap (λ k. f k r) (sym (add-zero n)) ∙ same 0 r refl ∙ ap (λ k. g k r) (add-zero n))
      (gathered_same g (suc n) rs (λ k s at.
      let place : suc n + k ≡ n + suc k = omega arith in
      ap (λ m. f m s) place ∙ same (suc k) s at ∙ ap (λ m. g m s) (sym place)))

pub first_more : (test : Recorded → Bool) (n : ℕ) (rs : List Recorded) (r : Recorded) → first_from test n (rs ++ r ∷ []) ≡ or_else (first_from test n rs) (if test r then Some (n + length rs) else None)
unfolding or_else
first_more test n [] r = ap (λ k. if test r then Some k else None) (sym (add-zero n))
first_more test n (s ∷ rs) r =
    let place : suc n + length rs ≡ n + suc (length rs) = omega arith in
    let rest = first_more test (suc n) rs r ∙ ap (λ k. or_else (first_from test (suc n) rs) (if test r then Some k else None)) place in
    go (test s) (first_from test (suc n) (rs ++ r ∷ [])) (first_from test (suc n) rs) (if test r then Some (n + suc (length rs)) else None) rest
  where
    go : (b : Bool) (whole front last : Option ℕ) → whole ≡ or_else front last → (if b then Some n else whole) ≡ or_else (if b then Some n else front) last
    go true whole front last is = refl
    go false whole front last is = is

-- ---- callers

pub caller_kept : (rs ys : List Recorded) (o : Option ℕ) → OptionBelow (length rs) o → caller_in (rs ++ ys) o ≡ caller_in rs o
caller_kept rs ys None below = refl
caller_kept rs ys (Some frame) below = ap body_of (slice_get_front rs ys frame below)

body_kept : (rs : List Recorded) (frame : ℕ) → get_or (map (λ r. body_of (Some r)) rs) frame NONE ≡ body_of (slice_get rs frame)
body_kept [] frame = get_or_past [] frame NONE (omega arith)
body_kept (r ∷ rs) zero = refl
body_kept (r ∷ rs) (suc frame) = body_kept rs frame

pub caller_found : (rs : List Recorded) (o : Option ℕ) → body_at (map (λ r. body_of (Some r)) rs) o ≡ caller_in rs o
caller_found rs None = refl
caller_found rs (Some frame) = body_kept rs frame
