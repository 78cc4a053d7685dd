-- What a reader lets stand as the end of a trace, and what its bytes end with.
use Rattle.std.specs.Prelude.{◌≡◌, ℕ, ◌-◌, ◌<◌, ◌≤◌, ◌++◌, true, List, drop, length}
use Rattle.wy_kernel.specs.declared.program.Program.{Program}
use Rattle.wy_event.specs.declared.record.Head.{Head}
use Rattle.wy_event.specs.declared.record.Tail.{Tail}
use Rattle.wy_event.specs.declared.record.Version.{Version}
use Rattle.wy_spelling.specs.Spelling.{opening}
use Rattle.wy_payload.specs.Closing.{is_thrown}
use Rattle.wy_payload.specs.Ranges.{ranges_of}
use Rattle.wy_frames.specs.declared.stage.Stage.TheVariants as stages
use Rattle.wy_frames.specs.Progress.{Progress, start}
use Rattle.wy_frames.specs.Scan.{Leaves, Waits, turn}

-- behind so many events, of a program with so many statements: a cover for each of these, and where the run ended by a throw, the event that it was
pub record EndStands (statements count : ℕ) (tail : Tail) : Type 0 where
  pub covered : length tail.coverage.statements ≡ statements
  pub stop : tail.stop ≤ 11
  pub last : is_thrown tail.stop ≡ true → tail.last < count

abbrev pub ReadEndsStand : Type 0
ReadEndsStand = (v : Version) (p : Program) (head : Head) (fed : List ℕ) (t : Progress) (rest : List ℕ) (tail : Tail) (seal : List ℕ) → Leaves (ranges_of v p) head.steps (start v head) fed t rest → t.stage ≡ stages.Sealed tail seal → EndStands p.statements (length t.placed) tail

-- these thirty-two are the last of all bytes
abbrev pub EndsWithSeal : List ℕ → List ℕ → Type 0
EndsWithSeal bytes seal = (32 ≤ length bytes) × (drop (length bytes - 32) bytes ≡ seal)

abbrev pub ReadTracesEndSealed : Type 0
ReadTracesEndSealed = (v : Version) (p : Program) (head : Head) (fed : List ℕ) (t : Progress) (rest : List ℕ) (tail : Tail) (seal : List ℕ) → Leaves (ranges_of v p) head.steps (start v head) fed t rest → turn (ranges_of v p) head.steps t rest ≡ Waits → t.stage ≡ stages.Sealed tail seal → EndsWithSeal (opening v head ++ fed) seal
