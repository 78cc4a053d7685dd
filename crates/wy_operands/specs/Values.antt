-- The values that the forms of a body have found so far, the newest first, as a run carries them.
use Rattle.std.specs.Prelude.{ℕ, List, [], ◌∷◌, ◌++◌}
use Rattle.wy_value.specs.declared.value.Value.{Value}
use Rattle.wy_value.specs.declared.value.Value.TheVariants.{None as Nothing}
use Rattle.wy_event.specs.declared.record.Use.{Use}
use Rattle.wy_event.specs.declared.record.Use.TheVariants as uses
use Rattle.wy_steps.specs.Sets.{nothing}
use Rattle.wy_steps.specs.State.{Carried}

abbrev pub Values : Type 0
Values = List (Carried nothing)

-- what carries a value and these uses
abbrev pub given : Value → List Use → Carried nothing
given v us = record { value = v; uses = us; from_data = tt; from_all = tt }

-- the value of an event
abbrev pub valued : ℕ → Value → Carried nothing
valued e v = given v (uses.Value e ∷ [])

-- the newest; where there is none, what has no value and no uses
abbrev pub top : Values → Carried nothing
top [] = given Nothing []
top (v ∷ vs) = v

abbrev pub under : Values → Values
under [] = []
under (v ∷ vs) = vs

abbrev pub under_many : ℕ → Values → Values
under_many ℕ.zero vs = vs
under_many (ℕ.suc n) vs = under_many n (under vs)

-- the one with so many above it
abbrev pub at : ℕ → Values → Carried nothing
at n vs = top (under_many n vs)

-- so many of the newest, the oldest of them first
abbrev pub last_many : ℕ → Values → Values
last_many ℕ.zero vs = []
last_many (ℕ.suc n) vs = last_many n (under vs) ++ top vs ∷ []

-- the uses of so many of the newest, those of the oldest of them first
abbrev pub uses_of_last : ℕ → Values → List Use
uses_of_last ℕ.zero vs = []
uses_of_last (ℕ.suc ℕ.zero) vs = (top vs).uses
uses_of_last (ℕ.suc (ℕ.suc n)) vs = uses_of_last (ℕ.suc n) (under vs) ++ (top vs).uses

-- a value made of so many of the newest, in their place
abbrev pub joined_last : ℕ → Value → Values → Values
joined_last n v vs = given v (uses_of_last n vs) ∷ under_many n vs

-- the same with one more use
abbrev pub joined_with : ℕ → Value → Use → Values → Values
joined_with n v used vs = given v (uses_of_last n vs ++ used ∷ []) ∷ under_many n vs

-- the value with so many above it, on top once more
abbrev pub with_copy : ℕ → Values → Values
with_copy n vs = at n vs ∷ vs

-- a value with the uses of the top, and one more
abbrev pub with_after : Value → Use → Values → Values
with_after v used vs = given v ((top vs).uses ++ used ∷ []) ∷ vs

-- the value of an event in place of so many of the newest
abbrev pub with_event : ℕ → Value → ℕ → Values → Values
with_event n v e vs = valued e v ∷ under_many n vs

-- the second of the three newest, in place of all three
abbrev pub with_second_of_three : Values → Values
with_second_of_three vs = at 1 vs ∷ under_many 3 vs
