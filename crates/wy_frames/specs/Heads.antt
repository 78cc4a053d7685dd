-- The head of a trace: the magic of a version, and the frame behind it.
use Rattle.std.specs.Prelude.{◌≡◌, ℕ, suc, ◌+◌, ◌==◌, if◌then◌else◌, List, ◌∷◌, length, drop, Option, Some, Result, Ok, Err}
use Rattle.std.specs.Prelude.{None as Absent}
use Rattle.wy_event.specs.declared.record.Head.{Head}
use Rattle.wy_event.specs.declared.record.Version.{Version}
use Rattle.wy_event.specs.declared.record.Version.TheVariants.{One, Two}
use Rattle.wy_spelling.specs.Spelling.{magic}
use Rattle.wy_payload.specs.declared.fault.DamageRule.{DamageRule}
use Rattle.wy_payload.specs.declared.fault.DamageRule.TheVariants as rule
use Rattle.wy_payload.specs.Reading.{all_of}
use Rattle.wy_payload.specs.Closing.{head_at}
use Rattle.wy_frames.specs.declared.error.TraceError.{TraceError}
use Rattle.wy_frames.specs.declared.error.TraceError.TheVariants.{Cut, Damaged, NoMemory}
use Rattle.wy_frames.specs.Frames.{Frame, frame_of}

-- the answer, unless memory ran out
abbrev pub GivesDue : {A : Type 0} → Result A TraceError → Result A TraceError → Type 0
GivesDue (Ok x) due = due ≡ Ok x
GivesDue (Err NoMemory) due = Unit {0}
GivesDue (Err e) due = due ≡ Err e

-- how many bytes at the front agree
unfoldable pub agreeing : List ℕ → List ℕ → ℕ
agreeing (x ∷ xs) (y ∷ ys) = if x == y then suc (agreeing xs ys) else 0
agreeing _ _ = 0

abbrev pub magic_length : ℕ
magic_length = 8

-- the version whose magic bytes begin with; where they begin with none, they are compared with that of version 2, which differs in its last byte alone
unfoldable pub version_of : List ℕ → Version
version_of bytes = if agreeing (magic One) bytes == magic_length then One else Two

-- a head, the place behind it, and the version
abbrev pub ReadHead : Type 0
ReadHead = Head × ℕ × Version

abbrev pub read_head_as : Version → ℕ → Result Head DamageRule → Result ReadHead TraceError
read_head_as v end (Ok head) = Ok (head, end, v)
read_head_as v end (Err r) = Err (Damaged magic_length r)

abbrev pub head_in : Version → ℕ → Option Frame → Result ReadHead TraceError
head_in v size Absent = Err (Cut size)
head_in v size (Some f) = if f.letter == 72 then read_head_as v (magic_length + length f.whole) (all_of (head_at f.payload)) else Err (Damaged magic_length rule.FrameKind)

abbrev pub behind_magic : Version → ℕ → List ℕ → Result ReadHead TraceError
behind_magic v n bytes = if n == magic_length then head_in v (length bytes) (frame_of (drop magic_length bytes))
    else (if n == length bytes then Err (Cut n) else Err (Damaged n rule.Magic))

unfoldable pub head_of : List ℕ → Result ReadHead TraceError
head_of bytes = let v = version_of bytes in behind_magic v (agreeing (magic v) bytes) bytes
