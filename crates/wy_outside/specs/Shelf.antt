-- What a shelf holds, and what a read of it answers.
use Rattle.std.specs.Prelude.{◌≡◌, ◌≢◌, ℕ, ◌<◌, Bool, MatchBool, true, false, List, [], ◌∷◌, AllPairs, if◌then◌else◌, bytes_eq, nat_le, length, take, drop, option_map, Option, Some, None, Result, Ok, Err, Vec, vec_len, String, string_bytes, ⊤}
use Rattle.std.specs.declared.alloc.Global.{Global}
use Rattle.wy_outside.specs.Counts.{Rose}
use Rattle.wy_outside.specs.declared.shelf.ShelfError.{ShelfError}
use Rattle.wy_outside.specs.declared.shelf.ShelfError.TheVariants.{Failed, Absent, NoMemory}

-- the bytes that are kept under each name, by the name's bytes
abbrev pub Files : Type 0
Files = List ℕ → Option (List ℕ)

abbrev pub is_failed : ShelfError → Bool
is_failed Failed = true
is_failed Absent = false
is_failed NoMemory = false

abbrev pub is_absent : ShelfError → Bool
is_absent Failed = false
is_absent Absent = true
is_absent NoMemory = false

-- Absent says that there is no such file
abbrev pub LacksWhenAbsent : Files → List ℕ → ShelfError → Type 0
LacksWhenAbsent files name Absent = files name ≡ None
LacksWhenAbsent files name _ = ⊤

-- where the files are told, Ok gives the first max bytes of the named one, and Absent says that there is none
abbrev pub ReadsFile : Option Files → List ℕ → ℕ → Result (Vec ℕ Global) ShelfError → Type 0
ReadsFile None name max outcome = ⊤
ReadsFile (Some files) name max (Ok bytes) = option_map (take max) (files name) ≡ Some bytes.items
ReadsFile (Some files) name max (Err Absent) = files name ≡ None
ReadsFile (Some files) name max (Err Failed) = ⊤
ReadsFile (Some files) name max (Err NoMemory) = ⊤

-- where the files are told, Ok gives of the named one what stands from there on, at most len bytes, and Absent says that there is none
abbrev pub ReadsPart : Option Files → List ℕ → ℕ → ℕ → Result (Vec ℕ Global) ShelfError → Type 0
ReadsPart None name from len outcome = ⊤
ReadsPart (Some files) name from len (Ok bytes) = option_map (λ all. take len (drop from all)) (files name) ≡ Some bytes.items
ReadsPart (Some files) name from len (Err error) = LacksWhenAbsent files name error

-- where the files are told, Ok says whether the named one has at least size bytes, and Absent says that there is none
abbrev pub Reaches : Option Files → List ℕ → ℕ → Result Bool ShelfError → Type 0
Reaches None name size outcome = ⊤
Reaches (Some files) name size (Ok long) = option_map (λ all. nat_le size (length all)) (files name) ≡ Some long
Reaches (Some files) name size (Err error) = LacksWhenAbsent files name error

-- the count of full reads rose exactly at an Ok of max bytes
abbrev pub RoseWhenFull : ℕ → Result (Vec ℕ Global) ShelfError → ℕ → ℕ → Type 0
RoseWhenFull max (Ok bytes) old new = (vec_len bytes ≡ max → Rose old new) × (vec_len bytes < max → new ≡ old)
RoseWhenFull max (Err _) old new = new ≡ old

-- the count of full reads rose exactly at an Ok that says that the file reaches so far
abbrev pub RoseWhenReached : Result Bool ShelfError → ℕ → ℕ → Type 0
RoseWhenReached (Ok long) old new = MatchBool long (Rose old new) (new ≡ old)
RoseWhenReached (Err _) old new = new ≡ old

-- the files of a list of names and contents: the first of a name
abbrev pub files_of : List (String Global × Vec ℕ Global) → Files
files_of [] name = None
files_of (file ∷ files) name = if bytes_eq (string_bytes file.0) name then Some file.1.items else files_of files name

-- no two files have one name
abbrev pub AreDistinct : List (String Global × Vec ℕ Global) → Type 0
AreDistinct files = AllPairs (λ a b. string_bytes a.0 ≢ string_bytes b.0) files
