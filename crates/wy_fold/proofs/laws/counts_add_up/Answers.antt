use Rattle.wy_fold.proofs.Adding.{adds_up}
use Rattle.wy_fold.proofs.laws.counts_add_up.Goals as goal

pub returns : goal.returns
returns c = adds_up
