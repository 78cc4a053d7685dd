-- What a session makes of a view that refuses, and what that view counted.
use Rattle.std.specs.Prelude.{◌≡◌, Result, Ok, Err}
use Rattle.wy_view.specs.View.{RefusedFor, Told}
use Rattle.wy_view.specs.declared.view.ViewError.{ViewError}
use Rattle.wy_view.specs.declared.view.ViewError.TheVariants as view
use Rattle.wy_session.specs.declared.ending.Ending.{Ending}
use Rattle.wy_session.specs.declared.ending.Ending.TheVariants.{View, NoMemory}

-- want of memory is an ending of its own
abbrev pub ending_of : ViewError → Ending
ending_of view.NoMemory = NoMemory
ending_of e = View e

-- a view refused, and not for want of memory
abbrev pub Refuses : ViewError → Told → Told → Type 0
Refuses view.NoMemory old new = ⊥
Refuses e old new = RefusedFor e old new

-- what a view counted where a session ended so: its refusal has its cause, and else nothing failed
abbrev pub CountsFor : Ending → Told → Told → Type 0
CountsFor (View e) old new = Refuses e old new
CountsFor _ old new = new.faults ≡ old.faults

-- the same of what may have ended it
abbrev pub CountsOf : Result Unit Ending → Told → Told → Type 0
CountsOf (Ok _) old new = new.faults ≡ old.faults
CountsOf (Err ending) old new = CountsFor ending old new
