-- What mirrors have as one event more is handed on, and what a refusal leaves.
use Rattle.std.proofs.Common.{◌≡◌, ◌∙◌, ◌++◌, ◌+◌, ◌<◌, ℕ, zero, suc, List, [], ◌∷◌, map, take, drop, length, Some, append_assoc, refl, sym, ap, subst, arith}
use Rattle.std.specs.Prelude.{IfSome, Option, slice_get}
use Rattle.std.specs.Prelude.{None as Absent}
use Rattle.std.specs.List.{concat}
use Rattle.std.proofs.lemmas.List.{append-nil}
use Rattle.wy_event.specs.Record.{Recorded}
use Rattle.wy_record.specs.Recorders.{HavePrefix, Mirrors, with_more}
use Rattle.wy_machine.proofs.Mirrors.{front_behind, front_more, with_both}

-- a mirror that stays has nothing of a piece
pub has_none : (piece : List ℕ) (ms : Mirrors) → HavePrefix piece ms ms
has_none piece [] = tt
has_none piece (Absent ∷ ms) = has_none piece ms
has_none piece (Some b ∷ ms) = ((0, sym (append-nil b)), has_none piece ms)

-- ---- events by their numbers

pub there : (rs : List Recorded) (n : ℕ) → n < length rs → (r : Recorded) × (slice_get rs n ≡ Some r)
there [] n below = absurd (omega (arith, below))
there (x ∷ rs) zero below = (x, refl)
there (x ∷ rs) (suc n) below = there rs n (omega (arith, below))

pub counted : (o : Option (List Recorded)) (rs : List Recorded) (count : ℕ) → o ≡ Some rs → IfSome o (λ l. length l ≡ count) → length rs ≡ count
counted o rs count is told = subst (λ (p : Option (List Recorded)). IfSome p (λ l. length l ≡ count)) is told

-- ---- what is spelled

module _ (frame : Recorded → List ℕ) where
  abbrev pub spelled : List Recorded → List ℕ
  spelled rs = concat (map frame rs)

  pub spelled_more : (rs : List Recorded) (n : ℕ) (r : Recorded) → slice_get rs n ≡ Some r → spelled (take (suc n) rs) ≡ spelled (take n rs) ++ frame r
  spelled_more [] n r e = absurd (cc)
  spelled_more (x ∷ rs) zero r e = let same : x ≡ r = cc in append-nil (frame x) ∙ ap frame same
  spelled_more (x ∷ rs) (suc n) r e = ap (λ (l : List ℕ). frame x ++ l) (spelled_more rs n r e) ∙ sym (append_assoc (frame x) (spelled (take n rs)) (frame r))

  pub spelled_split : (rs : List Recorded) (k : ℕ) → spelled rs ≡ spelled (take k rs) ++ spelled (drop k rs)
  spelled_split [] zero = refl
  spelled_split [] (suc k) = refl
  spelled_split (x ∷ rs) zero = refl
  spelled_split (x ∷ rs) (suc k) = ap (λ (l : List ℕ). frame x ++ l) (spelled_split rs k) ∙ sym (append_assoc (frame x) (spelled (take k rs)) (spelled (drop k rs)))

  module _ (rs : List Recorded) (n : ℕ) (r : Recorded) (there : slice_get rs n ≡ Some r) (first old new : Mirrors) (so_far : old ≡ with_more (spelled (take n rs)) first) where
    -- one more was taken
    pub took : new ≡ with_more (frame r) old → new ≡ with_more (spelled (take (n + 1) rs)) first
    took is =
        let next : suc n ≡ n + 1 = omega arith in
        is ∙ ap (with_more (frame r)) so_far ∙ with_both (spelled (take n rs)) (frame r) first
        ∙ ap (λ (l : List ℕ). with_more l first) (sym (spelled_more rs n r there) ∙ ap (λ k. spelled (take k rs)) next)

    -- one more was refused
    pub refused : HavePrefix (frame r) old new → HavePrefix (spelled rs) first new
    refused has =
        let behind : HavePrefix (spelled (take n rs) ++ frame r) first new = front_behind (spelled (take n rs)) (frame r) first new (subst (λ (ms : Mirrors). HavePrefix (frame r) ms new) so_far has) in
        subst (λ (l : List ℕ). HavePrefix l first new) (sym (spelled_split rs (suc n) ∙ ap (λ (l : List ℕ). l ++ spelled (drop (suc n) rs)) (spelled_more rs n r there)))
        (front_more (spelled (take n rs) ++ frame r) (spelled (drop (suc n) rs)) first new behind)
