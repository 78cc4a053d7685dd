-- An index that knows the classes of a program's fields finds the last writes of the program's slots.
use Rattle.std.proofs.Common.{◌≡◌, ℕ, List, ap}
use Rattle.std.proofs.Math.Path.{fun_ext}
use Rattle.wy_kernel.specs.Parts.{program_of}
use Rattle.wy_event.specs.declared.record.Slot.{Slot}
use Rattle.wy_event.specs.Record.{Recorded}
use Rattle.wy_event.specs.Sources.{last_write}
use Rattle.wy_steps.specs.Steps.{owner_in}
use Rattle.wy_index.specs.Index.{owners_of}
use Rattle.wy_watch.specs.declared.sight.Sight as memory
use Rattle.wy_watch.specs.Sight.{IsFit}

pub own_write : (s : memory.Sight) (rs : List Recorded) (x : Slot) (m : ℕ) → IsFit s → last_write (owners_of s.index.now) rs x m ≡ last_write (owner_in (program_of s.program.now)) rs x m
unfolding owner_in
own_write s rs x m fit = ap (λ owner. last_write owner rs x m) (fun_ext fit.owners)
