-- The number of each status.
use Rattle.std.specs.Prelude.{◌≡◌, ℕ}
use Rattle.wy_lens.specs.declared.status.Status.{Status}
use Rattle.wy_lens.specs.declared.status.Status.TheVariants.{Done, Usage, Absent, Refused, Trace, Question, Fault, TooLong, NoMemory}

abbrev pub code_of : Status → ℕ
code_of Done = 0
code_of Usage = 2
code_of Absent = 3
code_of Refused = 4
code_of Trace = 5
code_of Question = 6
code_of Fault = 7
code_of TooLong = 8
code_of NoMemory = 9

-- it is the number of a status
abbrev pub IsStatus : ℕ → Type 0
IsStatus number = (status : Status) × (number ≡ code_of status)
