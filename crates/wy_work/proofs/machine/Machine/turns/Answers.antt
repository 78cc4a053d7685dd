use Rattle.wy_work.proofs.Turns.{counts_one_more}
use Rattle.wy_work.proofs.machine.Machine.turns.Goals as goal

pub returns : goal.returns
returns g c p next = counts_one_more p _ _ (c.steps_left-left.ensures.step p) next
