use Rattle.law_reading.proofs.Tails.{whole_coverage}
use Rattle.law_reading.proofs.spelled.coverages_are_spelled.Goals as goal

pub returns : goal.returns
returns c = whole_coverage
