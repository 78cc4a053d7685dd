-- What a read of a source takes from what is left of it.
use Rattle.std.specs.Prelude.{◌≡◌, ℕ, Bool, true, false, List, [], ◌++◌, option_map, Option, Some, None, Result, Ok, Err, Vec, vec_len, ⊤}
use Rattle.std.specs.declared.alloc.Global.{Global}
use Rattle.wy_outside.specs.Counts.{count_after}
use Rattle.wy_outside.specs.declared.source.SourceError.{SourceError}
use Rattle.wy_outside.specs.declared.source.SourceError.TheVariants.{Failed, NoMemory}

abbrev pub is_failed : SourceError → Bool
is_failed Failed = true
is_failed NoMemory = false

-- what was left is what was given and then what is left; an error takes nothing
abbrev pub Takes : Option (List ℕ) → Option (List ℕ) → Result (Vec ℕ Global) SourceError → Type 0
Takes old new (Ok bytes) = old ≡ option_map (λ rest. bytes.items ++ rest) new
Takes old new (Err _) = new ≡ old

-- nothing is given exactly at the end of what was left
abbrev pub EndsExactly : Option (List ℕ) → Result (Vec ℕ Global) SourceError → Type 0
EndsExactly None outcome = ⊤
EndsExactly (Some left) (Ok bytes) = (bytes.items ≡ [] → left ≡ []) × (left ≡ [] → bytes.items ≡ [])
EndsExactly (Some left) (Err _) = ⊤

-- the bytes that were given are counted
abbrev pub CountsTaken : ℕ → ℕ → Result (Vec ℕ Global) SourceError → Type 0
CountsTaken old new (Ok bytes) = new ≡ count_after old (vec_len bytes)
CountsTaken old new (Err _) = new ≡ old
