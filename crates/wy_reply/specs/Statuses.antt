-- The number of each status.
use Rattle.std.specs.Prelude.{◌≡◌, ℕ, Bool, true, false}
use Rattle.wy_reply.specs.declared.status.Status.{Status}
use Rattle.wy_reply.specs.declared.status.Status.TheVariants.{Done, Usage, Absent, Program, Trace, Question, Fault, TooLong, NoMemory, Audit, Certificate}

abbrev pub code_of : Status → ℕ
code_of Done = 0
code_of Usage = 2
code_of Absent = 3
code_of Program = 4
code_of Trace = 5
code_of Question = 6
code_of Fault = 7
code_of TooLong = 8
code_of NoMemory = 9
code_of Audit = 10
code_of Certificate = 11

-- it is the number of a status
abbrev pub IsStatus : ℕ → Type 0
IsStatus number = (status : Status) × (number ≡ code_of status)

-- it says that the words are no command, or that a file could not be read or written
abbrev pub is_of_files : Status → Bool
is_of_files Usage = true
is_of_files Absent = true
is_of_files TooLong = true
is_of_files Fault = true
is_of_files _ = false
