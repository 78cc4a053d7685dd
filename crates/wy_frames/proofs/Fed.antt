-- What a scanner has read once a piece more came.
use Rattle.std.proofs.Common.{Bor, ◌+◌, length, length-append, ◌≡◌, ℕ, List, ◌++◌, Some, sym, ap, ◌∙◌, subst}
use Rattle.wy_kernel.specs.declared.program.Program.{Program}
use Rattle.wy_event.specs.declared.record.Version.{Version}
use Rattle.wy_event.specs.declared.record.Head.{Head}
use Rattle.wy_payload.specs.declared.ranges.Ranges.{Ranges}
use Rattle.wy_payload.specs.Ranges.{ranges_of}
use Rattle.wy_frames.specs.declared.error.TraceError.{TraceError}
use Rattle.wy_frames.specs.declared.past.Past.{Past}
use Rattle.wy_frames.specs.declared.stage.ReadEvent.{ReadEvent}
use Rattle.wy_frames.specs.declared.scanner.Scanner.{Scanner}
use Rattle.wy_frames.specs.Progress.{Progress, start}
use Rattle.wy_frames.specs.Holds.{Holds}
use Rattle.wy_frames.specs.Scan.{Leaves, Refused, Rests}
use Rattle.wy_frames.specs.Scanning.{Scans}
use Rattle.wy_spelling.specs.Spelling.{opening}
use Rattle.wy_frames.proofs.Pieces.{leaves_more}
use Rattle.wy_frames.proofs.Kept.{kept}

-- what a scanner hands to the next frames: the ranges, the budget, what stands, and the bytes that are there now
pub record Handed (s : Scanner) (v : Version) (p : Program) (head : Head) (piece : List ℕ) (r : Ranges) (steps : ℕ) (past : Past) (bytes : List ℕ) : Type 0 where
  pub ranges_is : r ≡ ranges_of v p
  pub steps_is : steps ≡ head.steps
  pub past_is : past ≡ s.past
  pub bytes_is : bytes ≡ s.rest.items ++ piece

module _ (s : Scanner) (v : Version) (p : Program) (head : Head) (fed piece : List ℕ) (t : Progress) (r : Ranges) (steps : ℕ) (past : Past) (bytes : List ℕ) (h : Scans s v p head fed t) (handed : Handed s v p head piece r steps past bytes) where
  pub stands : Holds past t
  stands = rw handed.past_is h.holds

  pub leaves : Leaves r steps (start v head) (fed ++ piece) t bytes
  leaves = rw (handed.ranges_is, handed.steps_is, handed.bytes_is) (leaves_more (ranges_of v p) head.steps (start v head) fed piece t s.rest.items h.leaves)

  pub refused : (e : TraceError) → Refused r steps (start v head) (fed ++ piece) e → Refused (ranges_of v p) head.steps (start v head) (fed ++ piece) e
  refused e refusal = subst (λ (x : Ranges). Refused x head.steps (start v head) (fed ++ piece) e) handed.ranges_is (subst (λ (n : ℕ). Refused r n (start v head) (fed ++ piece) e) handed.steps_is refusal)

  pub scanned : (n : Scanner) (old new : List ReadEvent) (q : Past) (rest : List ℕ) → (x : Rests r steps (start v head) (fed ++ piece) t old new q rest)
      → n.version ≡ s.version → n.program ≡ s.program → n.steps ≡ s.steps → n.ranges ≡ Some r → n.past ≡ q → n.rest.items ≡ rest → n.failure ≡ s.failure
      → (u : Progress) × (more : List ReadEvent) × Scans n v p head (fed ++ piece) u × (u.placed ≡ t.placed ++ more) × (new ≡ old ++ more)
  scanned n old new q rest x is_version program is_steps ranges is_past is_rest failure = (
    x.0.standing,
    x.0.more,
    record {
      version = is_version ∙ h.version;
      program = ap (λ (b : Bor Program). b.now) program ∙ h.program;
      steps = is_steps ∙ h.steps;
      knows = rw ranges (handed.ranges_is ∙ ap (ranges_of v) (sym (ap (λ (b : Bor Program). b.now) program ∙ h.program)) ∙ ap (λ (w : Version). ranges_of w n.program.now) (sym (is_version ∙ h.version)));
      sound = failure ∙ h.sound;
      holds = rw is_past x.0.holds;
      leaves = rw is_rest (rw (handed.ranges_is, handed.steps_is) at x.0.leaves);
      waits = rw is_rest (rw (handed.ranges_is, handed.steps_is) at x.1);
    },
    x.0.placed,
    x.0.kept,
  )

-- all bytes, those of the head too
pub cut_at : (s : Scanner) (v : Version) (p : Program) (head : Head) (fed : List ℕ) (t : Progress) → Scans s v p head fed t → s.past.at + length s.rest.items ≡ length (opening v head ++ fed)
unfolding start
cut_at s v p head fed t h = ap (λ n. n + length s.rest.items) h.holds.counts.at ∙ sym (length-append t.before s.rest.items) ∙ ap length (kept (ranges_of v p) head.steps (start v head) fed t s.rest.items h.leaves)
