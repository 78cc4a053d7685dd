-- A write appends what follows the place, and an interrupted one appends nothing.
use Rattle.std.proofs.Common.{arith}
use Rattle.wy_outside.proofs.Written.{front_grown, front_kept}
use Rattle.wy_outside.proofs.real.sink.write_whole.Goals as goal
use Rattle.wy_outside.proofs.real.sink.write_whole.Goals.{in-Ok, in-Err}

pub loop-preserved : goal.loop-preserved
loop-preserved g c = elim c.match-write.branch [
  | in-Ok w ↦ record {
    within = grind (arith, w.in-Ok.ensures.bound);
    front = front_grown _ _ _ c.loop.at w.in-Ok.count _ _ c.loop.invariant.front w.in-Ok.ensures.bytes (omega (arith, w.at-is));
  }
  | in-Err w ↦ record {
    within = grind arith;
    front = front_kept _ _ _ _ (rw w.at-is c.loop.invariant.front) w.in-Err.ensures.bytes;
  }
]
