-- What all bytes of a trace are read as.
use Rattle.std.specs.Prelude.{◌≡◌, ◌⊎◌, ℕ, List, ◌++◌, length, drop, Result, Ok, Err, MatchResult}
use Rattle.wy_kernel.specs.declared.program.Program.{Program}
use Rattle.wy_event.specs.declared.record.Head.{Head}
use Rattle.wy_event.specs.declared.record.Trace.{Trace}
use Rattle.wy_event.specs.declared.record.Version.{Version}
use Rattle.wy_spelling.specs.Spelling.{opening}
use Rattle.wy_payload.specs.Ranges.{ranges_of}
use Rattle.wy_frames.specs.declared.error.TraceError.{TraceError}
use Rattle.wy_frames.specs.declared.error.TraceError.TheVariants.{Cut, NoMemory}
use Rattle.wy_frames.specs.Progress.{Progress, start}
use Rattle.wy_frames.specs.Ends.{IsUnsealed}
use Rattle.wy_frames.specs.Scan.{Waits, turn, Leaves, Refused}
use Rattle.wy_frames.specs.Heads.{head_of}
use Rattle.wy_frames.specs.Decoding.{HasTrace}

-- all whole frames of the bytes behind a head stand, and nothing is wrong with them
pub record AllStand (v : Version) (p : Program) (head : Head) (fed : List ℕ) (t : Progress) : Type 0 where
  pub rest : List ℕ
  pub leaves : Leaves (ranges_of v p) head.steps (start v head) fed t rest
  pub waits : turn (ranges_of v p) head.steps t rest ≡ Waits

-- they end before the seal
abbrev pub IsCut : Version → Program → Head → List ℕ → TraceError → Type 0
IsCut v p head fed e = (t : Progress) × AllStand v p head fed t × IsUnsealed t.stage × (e ≡ Cut (length (opening v head ++ fed)))

abbrev pub IsReadBehind : Version → Program → Head → List ℕ → Result Trace TraceError → Type 0
IsReadBehind v p head fed (Ok x) = (t : Progress) × AllStand v p head fed t × HasTrace x head t
IsReadBehind v p head fed (Err e) = Refused (ranges_of v p) head.steps (start v head) fed e ⊎ IsCut v p head fed e

-- the first thing that is wrong with the head, or what is read behind it
abbrev pub IsReadAs : Program → List ℕ → Result Trace TraceError → Type 0
IsReadAs p bytes r = MatchResult (head_of bytes) (λ x. IsReadBehind x.2 p x.0 (drop x.1 bytes) r) (λ e. r ≡ Err e)

-- unless memory ran out
abbrev pub ReadsAs : Result Trace TraceError → Program → List ℕ → Type 0
ReadsAs (Ok x) p bytes = IsReadAs p bytes (Ok x)
ReadsAs (Err NoMemory) p bytes = Unit {0}
ReadsAs (Err e) p bytes = IsReadAs p bytes (Err e)
