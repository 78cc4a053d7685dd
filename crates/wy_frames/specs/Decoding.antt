-- What a decoder has read of the bytes that it was fed.
use Rattle.std.specs.Prelude.{◌≡◌, ℕ, List, ◌++◌, length, map, Result, Ok, Err}
use Rattle.wy_kernel.specs.declared.program.Program.{Program}
use Rattle.wy_event.specs.declared.record.Head.{Head}
use Rattle.wy_event.specs.declared.record.Trace.{Trace}
use Rattle.wy_event.specs.declared.record.Version.{Version}
use Rattle.wy_spelling.specs.Spelling.{opening}
use Rattle.wy_frames.specs.declared.error.TraceError.{TraceError}
use Rattle.wy_frames.specs.declared.error.TraceError.TheVariants.{Cut, NoMemory}
use Rattle.wy_frames.specs.declared.stage.Stage.TheVariants as stages
use Rattle.wy_frames.specs.declared.decoder.Decoder.{Decoder}
use Rattle.wy_frames.specs.Progress.{Progress, event_in}
use Rattle.wy_frames.specs.Ends.{IsUnsealed}
use Rattle.wy_frames.specs.Scanning.{Scans, Stays}

-- a scanner has read so, and the events are kept
pub record Decodes (d : Decoder) (v : Version) (p : Program) (head : Head) (fed : List ℕ) (t : Progress) : Type 0 where
  pub scans : Scans d.scanner v p head fed t
  pub kept : d.placed.items ≡ t.placed
  pub head_kept : d.head ≡ head

abbrev pub Decoded : Result Unit TraceError → Decoder → Version → Program → Head → List ℕ → Type 0
Decoded (Ok u) d v p head fed = (t : Progress) × Decodes d v p head fed t
Decoded (Err e) d v p head fed = Stays d.scanner v p head fed e

-- the frames that stand, up to the seal, are this trace
pub record HasTrace (x : Trace) (head : Head) (t : Progress) : Type 0 where
  pub head_is : x.head ≡ head
  pub events : x.events ≡ map event_in t.placed
  pub seal : List ℕ
  pub sealed : t.stage ≡ stages.Sealed x.tail seal

abbrev pub IsTrace : Result Trace TraceError → Version → Head → List ℕ → Progress → Type 0
IsTrace (Ok x) v head fed t = HasTrace x head t
IsTrace (Err (Cut byte)) v head fed t = (byte ≡ length (opening v head ++ fed)) × IsUnsealed t.stage
IsTrace (Err NoMemory) v head fed t = Unit {0}
IsTrace (Err e) v head fed t = ⊥
