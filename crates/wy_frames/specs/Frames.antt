-- Where a frame lies in bytes: a byte that names its kind, four bytes of length, and so many bytes.
use Rattle.std.specs.Prelude.{ℕ, ◌+◌, nat_lt, if◌then◌else◌, List, length, take, drop, slice_index, Option, Some}
use Rattle.std.specs.Prelude.{None as Absent}
use Rattle.std.specs.Int.{w32, from_be_bytes}

-- whole has all of its bytes, rest those behind it
pub record Frame : Type 0 where
  pub letter : ℕ
  pub payload : List ℕ
  pub whole : List ℕ
  pub rest : List ℕ

abbrev pub opening_length : ℕ
opening_length = 5

-- the length that a frame says
abbrev pub said_length : List ℕ → ℕ
said_length bytes = from_be_bytes w32 (take 4 (drop 1 bytes))

unfoldable pub frame_of_length : ℕ → List ℕ → Option Frame
frame_of_length size bytes = if nat_lt (length bytes) (opening_length + size) then Absent
    else Some (record { letter = slice_index bytes 0; payload = drop opening_length (take (opening_length + size) bytes); whole = take (opening_length + size) bytes; rest = drop (opening_length + size) bytes })

-- the frame that bytes begin with, where it is whole
unfoldable pub frame_of : List ℕ → Option Frame
frame_of bytes = if nat_lt (length bytes) opening_length then Absent else frame_of_length (said_length bytes) bytes
