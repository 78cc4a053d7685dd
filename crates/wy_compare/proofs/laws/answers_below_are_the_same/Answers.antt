use Rattle.wy_compare.proofs.Partings.{answers_below}
use Rattle.wy_compare.proofs.laws.answers_below_are_the_same.Goals as goal

pub returns : goal.returns
returns c = answers_below
