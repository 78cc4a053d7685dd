use Rattle.std.proofs.Common.{ℕ, ◌<◌, get_or}
use Rattle.wy_members.specs.Alike.{IsMarked}
use Rattle.wy_members.proofs.broken.extended.mark_each.Given as goal

abbrev pub invariant-loop-d : goal.invariant-loop-d
invariant-loop-d l = record { each : (k : ℕ) → k < l.d-index → IsMarked l.marks (get_or l.classes k 0); kept : (d : ℕ) → IsMarked l.initial.marks d → IsMarked l.marks d }
