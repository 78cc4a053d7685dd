-- Counts of 64 bits that never fall: one that is raised at its last value stays there, and counts as having risen.
use Rattle.std.specs.Prelude.{◌≡◌, ℕ, ◌+◌, ◌-◌, ◌^◌, ◌<◌, ◌≤◌, ◌⊎◌, min, Option, Some}
use Rattle.std.specs.Prelude.{None as Absent}

abbrev pub last_count : ℕ
last_count = 2 ^ 64 - 1

-- a count once n more were counted
abbrev pub count_after : ℕ → ℕ → ℕ
count_after count n = min (count + n) last_count

abbrev pub Rose : ℕ → ℕ → Type 0
Rose old new = (old < new) ⊎ (old ≡ last_count)

-- a count that is told is told again, and rose by at most so much
abbrev pub RoseAtMost : ℕ → Option ℕ → Option ℕ → Type 0
RoseAtMost n Absent Absent = Unit {0}
RoseAtMost n (Some old) (Some new) = new ≤ old + n
RoseAtMost n _ _ = ⊥
