use Rattle.std.proofs.Common.{refl}
use Rattle.wy_event.specs.Record.{recorded}
use Rattle.wy_state.proofs.state.State.event.Goals as goal

pub returns-clause-event : goal.returns-clause-event
unfolding recorded
returns-clause-event g c =
    rw (c.frame.ensures, c.control.ensures.parent, c.new-3.ensures, c.new-2.ensures, (c.in_ok-extend_from_slice.ensures {u = tt}).items, c.clear.ensures.items) refl
