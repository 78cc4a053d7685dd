-- What a write appends to what was written.
use Rattle.std.specs.Prelude.{◌≡◌, ℕ, ◌≤◌, Bool, true, false, List, ◌++◌, length, take, option_map, Option, Result, Ok, Err}
use Rattle.wy_outside.specs.declared.sink.SinkError.{SinkError}
use Rattle.wy_outside.specs.declared.sink.SinkError.TheVariants.{Failed, NoMemory}

abbrev pub is_failed : SinkError → Bool
is_failed Failed = true
is_failed NoMemory = false

-- what is told to be written once more bytes follow
abbrev pub appended : Option (List ℕ) → List ℕ → Option (List ℕ)
appended written bytes = option_map (λ before. before ++ bytes) written

-- Ok appends all of the bytes, and an error some first part of them
abbrev pub Appends : Option (List ℕ) → Option (List ℕ) → List ℕ → Result Unit SinkError → Type 0
Appends old new bytes (Ok _) = new ≡ appended old bytes
Appends old new bytes (Err _) = (n : ℕ) × (n ≤ length bytes) × (new ≡ appended old (take n bytes))
