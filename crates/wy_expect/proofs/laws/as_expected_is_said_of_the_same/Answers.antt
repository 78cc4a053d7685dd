use Rattle.wy_expect.proofs.Said.{said}
use Rattle.wy_expect.proofs.laws.as_expected_is_said_of_the_same.Goals as goal

pub returns : goal.returns
returns c = said
