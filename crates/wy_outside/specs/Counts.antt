-- The counts that an object of the outside keeps: numbers of 64 bits that never fall.
use Rattle.std.specs.Prelude.{◌≡◌, ℕ, ◌+◌, ◌-◌, ◌^◌, ◌<◌, ◌⊎◌, min, Bool, MatchBool, Result, Ok, Err}

-- the last value of a count, where it stays
abbrev pub last_count : ℕ
last_count = 2 ^ 64 - 1

-- a count once n more were counted
abbrev pub count_after : ℕ → ℕ → ℕ
count_after count n = min (count + n) last_count

-- a count rose; one that stands at its last value counts as having risen
abbrev pub Rose : ℕ → ℕ → Type 0
Rose old new = (old < new) ⊎ (old ≡ last_count)

-- a count rose at the errors that it counts, and at every other answer it stayed
abbrev pub RoseAt : {T E : Type 0} → (E → Bool) → Result T E → ℕ → ℕ → Type 0
RoseAt is_counted (Ok _) old new = new ≡ old
RoseAt is_counted (Err error) old new = MatchBool (is_counted error) (Rose old new) (new ≡ old)
