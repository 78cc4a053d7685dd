use Rattle.std.specs.Prelude.{None as Absent}
use Rattle.wy_work.proofs.Bodies.{bound_none, no_receiver}
use Rattle.wy_work.proofs.machine.Machine.call_static.Goals as goal

pub returns : goal.returns
returns g c = record {
  goes = c.call.ensures.goes Absent _ (bound_none _) (no_receiver _);
}
