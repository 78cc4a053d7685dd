-- What closes the events of a trace stands behind them.
use Rattle.std.proofs.Common.{◌≡◌, ℕ, ◌<◌, ◌≤◌, ◌^◌, List, [], ◌++◌, length, refl, sym, ap, ◌∙◌, subst, append_assoc, append-nil, arith}
use Rattle.sha2.specs.Sha256.{sha256}
use Rattle.wy_event.specs.declared.record.Tail.{Tail}
use Rattle.wy_spelling.specs.Spelling.{coverage_payload, coverage_frame, tail_payload, end_frame, seal_frame, tail_frames, closing}
use Rattle.wy_spelling.proofs.Lengths.{tail_length}
use Rattle.wy_payload.specs.declared.ranges.Ranges.{Ranges}
use Rattle.wy_kernel.specs.Limits.{steps_limit, event_limit}
use Rattle.wy_frames.specs.declared.stage.ReadEvent.{ReadEvent}
use Rattle.wy_frames.specs.declared.stage.Stage.{Stage}
use Rattle.wy_frames.specs.declared.stage.Stage.TheVariants as stages
use Rattle.wy_frames.specs.Frames.{frame_of}
use Rattle.wy_frames.specs.Progress.{Progress, knowns, with_stage}
use Rattle.wy_frames.specs.Scan.{Waits, without_frame, is_passed, turn, Leaves, frame as one_frame}
use Rattle.law_reading.specs.Readable.{EndMayStand}
use Rattle.law_reading.proofs.Ends.{Counts, whole_coverage, whole_end}
use Rattle.law_reading.proofs.Frames.{coverage_goes, end_goes, seal_goes}

-- an end that may close what stands
pub record MayClose (r : Ranges) (steps : ℕ) (s : Progress) (end : Tail) : Type 0 where
  pub few : length (knowns s) ≤ event_limit
  pub little : steps ≤ steps_limit
  pub may : EndMayStand r.statements steps (knowns s) end
  pub counts : Counts (knowns s) (record { steps = steps; uses = s.uses; output = s.output }) end
  pub short : length (coverage_payload end.coverage) < 2 ^ 32
  pub open_stage : s.stage ≡ stages.Open

-- all frames stand, with these events and this end
pub record AllClosed (r : Ranges) (steps : ℕ) (from : Progress) (fed : List ℕ) (placed : List ReadEvent) (end : Tail) : Type 0 where
  pub standing : Progress
  pub leaves : Leaves r steps from fed standing []
  pub placed_are : standing.placed ≡ placed
  pub seal : List ℕ
  pub sealed : standing.stage ≡ stages.Sealed end seal

closing_parts : (s : Progress) (end : Tail) (front : List ℕ) → s.before ≡ front → closing end front ≡ coverage_frame end.coverage ++ (end_frame end ++ (seal_frame (sha256 ((s.before ++ coverage_frame end.coverage) ++ end_frame end)) ++ []))
unfolding closing tail_frames
closing_parts s end front same =
    let c = coverage_frame end.coverage in
    let e = end_frame end in
    let all : front ++ (c ++ e) ≡ (s.before ++ c) ++ e = ap (λ l. l ++ (c ++ e)) (sym same) ∙ sym (append_assoc s.before c e) in
    append_assoc c e (seal_frame (sha256 (front ++ (c ++ e))))
    ∙ ap (λ l. c ++ (e ++ l)) (sym (append-nil (seal_frame (sha256 (front ++ (c ++ e))))))
    ∙ ap (λ l. c ++ (e ++ (seal_frame (sha256 l) ++ []))) all

pub closed : (r : Ranges) (steps : ℕ) (from : Progress) (fed front : List ℕ) (s : Progress) (end : Tail) → s.before ≡ front → MayClose r steps s end → Leaves r steps from fed s (closing end front) → AllClosed r steps from fed s.placed end
unfolding with_stage
closed r steps from fed front s end same h leaves =
    let c = coverage_frame end.coverage in
    let e = end_frame end in
    let one = with_stage s c (stages.Covered end.coverage) in
    let two = with_stage one e (stages.Ended end) in
    let seal = sha256 two.before in
    let z = seal_frame seal ++ [] in
    let three = with_stage two (seal_frame seal) (stages.Sealed end seal) in
    let here : Leaves r steps from fed s (c ++ (e ++ z)) = subst (λ (l : List ℕ). Leaves r steps from fed s l) (closing_parts s end front same) leaves in
    let short : length (tail_payload end) < 2 ^ 32 = omega (arith, tail_length end) in
    let covered = coverage_goes r steps s end.coverage (e ++ z) h.open_stage h.short (whole_coverage r.statements steps (knowns s) end h.few h.may h.short) in
    let ended = end_goes r steps one end z refl short (whole_end r.statements (knowns s) (record { steps = steps; uses = s.uses; output = s.output }) end h.few h.little h.may h.counts) in
    record {
      standing = three;
      leaves = one_frame two z three [] (one_frame one (e ++ z) two z (one_frame s (c ++ (e ++ z)) one (e ++ z) here covered) ended) (seal_goes r steps two end [] refl);
      placed_are = refl;
      seal = seal;
      sealed = refl;
    }

pub nothing_waits : (r : Ranges) (steps : ℕ) (s : Progress) (end : Tail) (seal : List ℕ) → s.stage ≡ stages.Sealed end seal → turn r steps s [] ≡ Waits
unfolding turn frame_of
nothing_waits r steps s end seal sealed = ap (λ (stage : Stage). without_frame (length s.before) (is_passed stage [])) sealed
