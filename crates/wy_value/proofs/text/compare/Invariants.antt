-- The units that were passed are the same, so the texts differ as the rests of them do.
use Rattle.std.proofs.Common.{◌≡◌, length, drop}
use Rattle.wy_value.specs.Text.{difference}
use Rattle.wy_value.proofs.text.compare.Given as goal

abbrev pub invariant-loop-x : goal.invariant-loop-x
invariant-loop-x l =
    (goal.iterator-loop-x).can_next l.x-iterator × (goal.iterator-loop-x).is_finite l.x-iterator
    × (difference (drop (length l.yielded) l.a) (drop (length l.yielded) l.b) ≡ difference l.a l.b)
