-- What the reading of the files that the words name gives.
use Rattle.std.specs.Prelude.{◌≡◌, ◌⊎◌, ℕ, List, Bool, true, false, Option, Some, None, Result, Ok, Err, Vec, ⊤}
use Rattle.std.specs.declared.alloc.Global.{Global}
use Rattle.std.specs.Borrow.{Bor}
use Rattle.wy_outside.specs.Shelf.{Files}
use Rattle.wy_outside.specs.declared.shelf.ShelfError.{ShelfError}
use Rattle.wy_outside.specs.declared.shelf.ShelfError.TheVariants as shelf
use Rattle.wy_reply.specs.declared.answer.Answer.{Answer}
use Rattle.wy_top.specs.declared.files.Contents.{Contents}
use Rattle.wy_top.specs.declared.files.FileError.{FileError}
use Rattle.wy_top.specs.declared.files.FileError.TheVariants.{Absent, TooLong, Fault, NoMemory}
use Rattle.wy_reply.specs.declared.status.Status.TheVariants as status
use Rattle.wy_reply.specs.Lines.{absent_line, too_long_line, shelf_fault_line}
use Rattle.wy_kernel.specs.Limits.{source_limit, input_limit}
use Rattle.wy_top.specs.Held.{Holds, Lacks, IsInput}

abbrev pub is_absent : FileError → Bool
is_absent (Absent name) = true
is_absent _ = false

abbrev pub is_too_long : FileError → Bool
is_too_long (TooLong name) = true
is_too_long _ = false

abbrev pub is_fault : FileError → Bool
is_fault Fault = true
is_fault _ = false

-- a shelf failed at this name, had no such file, or memory ran out
abbrev pub lack : Bor (List ℕ) → ShelfError → FileError
lack name shelf.Failed = Fault
lack name shelf.Absent = Absent name
lack name shelf.NoMemory = NoMemory

-- where the files are told, the text of the one of this name, or what is due where it is lacking
abbrev pub GivesFile : Option Files → List ℕ → ℕ → Result (Vec ℕ Global) FileError → Type 0
GivesFile None name limit outcome = ⊤
GivesFile (Some files) name limit (Ok bytes) = Holds files name limit bytes.items
GivesFile (Some files) name limit (Err (Absent lacking)) = Lacks files name limit 3 (absent_line lacking.now)
GivesFile (Some files) name limit (Err (TooLong lacking)) = Lacks files name limit 8 (too_long_line lacking.now)
GivesFile (Some files) name limit (Err Fault) = ⊤
GivesFile (Some files) name limit (Err NoMemory) = ⊤

-- the source is lacking, or it is there and the input is lacking
abbrev pub LacksEither : Files → List ℕ → Option (List ℕ) → ℕ → List ℕ → Type 0
LacksEither files source input status text =
    Lacks files source source_limit status text
    ⊎ ((held : List ℕ) × (name : List ℕ) × Holds files source source_limit held × (input ≡ Some name) × Lacks files name input_limit status text)

-- where the files are told, the texts of both, or what is due where one is lacking
abbrev pub GivesBoth : Option Files → List ℕ → Option (List ℕ) → Result Contents FileError → Type 0
GivesBoth None source input outcome = ⊤
GivesBoth (Some files) source input (Ok contents) = Holds files source source_limit contents.source.items × IsInput files input contents.input.items
GivesBoth (Some files) source input (Err (Absent lacking)) = LacksEither files source input 3 (absent_line lacking.now)
GivesBoth (Some files) source input (Err (TooLong lacking)) = LacksEither files source input 8 (too_long_line lacking.now)
GivesBoth (Some files) source input (Err Fault) = ⊤
GivesBoth (Some files) source input (Err NoMemory) = ⊤

-- an answer says why a file was not read; want of memory has none
abbrev pub Tells : FileError → Answer → Type 0
Tells (Absent name) answer = (answer.status ≡ status.Absent) × (answer.text.items ≡ absent_line name.now)
Tells (TooLong name) answer = (answer.status ≡ status.TooLong) × (answer.text.items ≡ too_long_line name.now)
Tells Fault answer = (answer.status ≡ status.Fault) × (answer.text.items ≡ shelf_fault_line)
Tells NoMemory answer = ⊥
