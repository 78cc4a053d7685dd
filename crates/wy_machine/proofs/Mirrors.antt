-- What mirrors have, piece by piece.
use Rattle.std.proofs.Common.{◌≡◌, ◌∙◌, ◌<◌, ◌+◌, ℕ, suc, List, [], ◌∷◌, ◌++◌, length, map, take, drop, Some, refl, sym, ap, ap₂, arith, append_assoc, get_or, inl, inr, subst, Result, Ok, Err, IfErr}
use Rattle.std.specs.Prelude.{None as Absent, option_map}
use Rattle.std.proofs.Math.Seq.{take-append-add, take-length, take-suc}
use Rattle.std.proofs.lemmas.List.{append-nil, map-append, take-append-drop}
use Rattle.std.proofs.lemmas.List.Folds.{concat-append}
use Rattle.wy_event.specs.Record.{Recorded}
use Rattle.std.specs.List.{concat}
use Rattle.wy_event.specs.declared.record.Tail.{Tail}
use Rattle.wy_record.specs.Recorders.{HaveClosing, HavePrefix, Mirrors, with_more, opened}
use Rattle.wy_machine.specs.Traces.{BeginTrace, closed}

pub with_nothing : (ms : Mirrors) → with_more [] ms ≡ ms
with_nothing [] = refl
with_nothing (Absent ∷ ms) = ap (λ xs. Absent ∷ xs) (with_nothing ms)
with_nothing (Some b ∷ ms) = ap₂ (λ x xs. Some x ∷ xs) (append-nil b) (with_nothing ms)

pub with_both : (x y : List ℕ) (ms : Mirrors) → with_more y (with_more x ms) ≡ with_more (x ++ y) ms
with_both x y [] = refl
with_both x y (Absent ∷ ms) = ap (λ xs. Absent ∷ xs) (with_both x y ms)
with_both x y (Some b ∷ ms) = ap₂ (λ z xs. Some z ∷ xs) (append_assoc b x y) (with_both x y ms)

-- what was opened, filled and closed has what it was given from its first byte on
pub closed_is : (closing : List ℕ → List ℕ) (x : List ℕ) (ms : Mirrors) → map (option_map (λ b. b ++ closing b)) (with_more x (opened ms)) ≡ closed closing x ms
closed_is closing x [] = refl
closed_is closing x (Absent ∷ ms) = ap (λ xs. Absent ∷ xs) (closed_is closing x ms)
closed_is closing x (Some b ∷ ms) = ap (λ xs. Some (x ++ closing x) ∷ xs) (closed_is closing x ms)

-- a trace from its opening to what closes it
pub whole : (closing : List ℕ → List ℕ) (x y : List ℕ) (old started noted finished : Mirrors) → started ≡ with_more x (opened old) → noted ≡ with_more y started →
    finished ≡ map (option_map (λ b. b ++ closing b)) noted → finished ≡ closed closing (x ++ y) old
whole closing x y old started noted finished first second third =
    third ∙ ap (map (option_map (λ b. b ++ closing b))) (second ∙ ap (with_more y) first ∙ with_both x y (opened old)) ∙ closed_is closing (x ++ y) old

-- ---- a prefix of what was given

-- the first k of a list are as many of a longer one
abbrev StartsSo : List ℕ → List ℕ → Type 0
StartsSo part whole = (k : ℕ) × (part ≡ take k whole)

starts_more : (x y : List ℕ) (k : ℕ) → StartsSo (take k x) (x ++ y)
starts_more [] y ℕ.zero = (0, refl)
starts_more [] y (suc k) = (0, refl)
starts_more (b ∷ x) y ℕ.zero = (0, refl)
starts_more (b ∷ x) y (suc k) = let (j, is) = starts_more x y k in (suc j, ap (λ l. b ∷ l) is)

-- a prefix of a piece is one of a longer piece
pub front_more : (x y : List ℕ) (old new : Mirrors) → HavePrefix x old new → HavePrefix (x ++ y) old new
front_more x y [] [] has = tt
front_more x y [] (_ ∷ new) has = absurd has
front_more x y (Absent ∷ old) [] has = absurd has
front_more x y (Some b ∷ old) [] has = absurd has
front_more x y (Absent ∷ old) (Absent ∷ new) has = front_more x y old new has
front_more x y (Absent ∷ old) (Some c ∷ new) has = absurd has
front_more x y (Some b ∷ old) (Absent ∷ new) has = absurd has
front_more x y (Some b ∷ old) (Some c ∷ new) ((k, is), rest) =
    let (j, same) = starts_more x y k in
    ((j, is ∙ ap (λ l. b ++ l) same), front_more x y old new rest)

-- a whole piece is a prefix of it
pub front_whole : (x : List ℕ) (old : Mirrors) → HavePrefix x old (with_more x old)
front_whole x [] = tt
front_whole x (Absent ∷ old) = front_whole x old
front_whole x (Some b ∷ old) = ((length x, ap (λ l. b ++ l) (sym (take-length x))), front_whole x old)

-- a prefix of what comes behind a piece is, with this, one of both
pub front_behind : (x y : List ℕ) (old new : Mirrors) → HavePrefix y (with_more x old) new → HavePrefix (x ++ y) old new
front_behind x y [] [] has = tt
front_behind x y [] (_ ∷ new) has = absurd has
front_behind x y (Absent ∷ old) [] has = absurd has
front_behind x y (Some b ∷ old) [] has = absurd has
front_behind x y (Absent ∷ old) (Absent ∷ new) has = front_behind x y old new has
front_behind x y (Absent ∷ old) (Some c ∷ new) has = absurd has
front_behind x y (Some b ∷ old) (Absent ∷ new) has = absurd has
front_behind x y (Some b ∷ old) (Some c ∷ new) ((k, is), rest) =
    ((length x + k, is ∙ append_assoc b x (take k y) ∙ ap (λ l. b ++ l) (sym (take-append-add x y k))), front_behind x y old new rest)

-- so is a prefix of what closes it
pub front_closing : (closing : List ℕ → List ℕ) (x : List ℕ) (old new : Mirrors) → HaveClosing closing (with_more x (opened old)) new → HavePrefix (x ++ closing x) (opened old) new
front_closing closing x [] [] has = tt
front_closing closing x [] (_ ∷ new) has = absurd has
front_closing closing x (Absent ∷ old) [] has = absurd has
front_closing closing x (Some b ∷ old) [] has = absurd has
front_closing closing x (Absent ∷ old) (Absent ∷ new) has = front_closing closing x old new has
front_closing closing x (Absent ∷ old) (Some c ∷ new) has = absurd has
front_closing closing x (Some b ∷ old) (Absent ∷ new) has = absurd has
front_closing closing x (Some b ∷ old) (Some c ∷ new) ((k, is), rest) =
    ((length x + k, is ∙ sym (take-append-add x (closing x) k)), front_closing closing x old new rest)

-- ---- where a recording is refused

pub any_error : {X E : Type 0} (r : Result X E) (P : Type 0) → P → IfErr r (λ e. P)
any_error (Ok x) P h = tt
any_error (Err e) P h = h

module _ (closing : Tail → List ℕ → List ℕ) (IsEnd : Tail → Type 0) (x y : List ℕ) (old : Mirrors) where
  -- at its opening
  pub begun_opening : (new : Mirrors) → HavePrefix x (opened old) new → BeginTrace closing IsEnd (x ++ y) old new
  begun_opening new has = inl (front_more x y (opened old) new has)

  -- where memory is wanting for the run
  pub begun_alone : (new : Mirrors) → new ≡ with_more x (opened old) → BeginTrace closing IsEnd (x ++ y) old new
  begun_alone new is = begun_opening new (subst (HavePrefix x (opened old)) (sym is) (front_whole x (opened old)))

  -- at an event
  pub begun_events : (started new : Mirrors) → started ≡ with_more x (opened old) → HavePrefix y started new → BeginTrace closing IsEnd (x ++ y) old new
  begun_events started new is has = inl (front_behind x y (opened old) new (subst (λ (ms : Mirrors). HavePrefix y ms new) is has))

  -- at its end
  pub begun_end : (end : Tail) (started noted new : Mirrors) → IsEnd end → started ≡ with_more x (opened old) → noted ≡ with_more y started → HaveClosing (closing end) noted new → BeginTrace closing IsEnd (x ++ y) old new
  begun_end end started noted new is_end first second has =
      inr (end, is_end, front_closing (closing end) (x ++ y) old new (subst (λ (ms : Mirrors). HaveClosing (closing end) ms new) (second ∙ ap (with_more y) first ∙ with_both x y (opened old)) has))
