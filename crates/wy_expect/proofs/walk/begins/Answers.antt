use Rattle.wy_expect.proofs.Walking.{begins}
use Rattle.wy_expect.proofs.walk.begins.Goals as goal

pub returns : goal.returns
returns c = begins c.args.front.now c.args.text.now c.starts_with.result c.starts_with.ensures.value
