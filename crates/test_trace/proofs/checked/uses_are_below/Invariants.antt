use Rattle.std.proofs.Common.{take}
use Rattle.wy_view.specs.References.{UsesBelow}
use Rattle.test_trace.proofs.checked.uses_are_below.Given as goal

abbrev pub invariant-loop-used : goal.invariant-loop-used
invariant-loop-used l = UsesBelow l.n (take l.used-index l.uses)
