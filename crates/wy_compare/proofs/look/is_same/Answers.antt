use Rattle.wy_compare.proofs.Steps.{step_tells}
use Rattle.wy_compare.proofs.look.is_same.Goals as goal

pub returns-in-Path : goal.returns-in-Path
returns-in-Path c = rw c.in-Path.is (step_tells c.args.a.now c.args.b.now c.same_step.result c.same_step.ensures)
