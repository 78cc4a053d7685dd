use Rattle.std.proofs.Common.{take}
use Rattle.wy_state.specs.Above.{HasVisited}
use Rattle.wy_state.proofs.above.Climb.visit_all.Given as goal

abbrev pub invariant-loop-class : goal.invariant-loop-class
invariant-loop-class l = HasVisited (take l.class-index l.classes) l.initial.self l.self
