use Rattle.wy_machine.proofs.Starts.{starts}
use Rattle.wy_machine.proofs.start.state.Goals as goal

pub returns-clause-agrees : goal.returns-clause-agrees
returns-clause-agrees g c = rw (c.new.ensures, c.new-3.ensures.items, c.new-4.ensures.items) (starts _ _ _ _ c.in_ok-new.ensures _ _ c.in_ok-covers.ensures _ _ c.requires.first c.requires.none)
