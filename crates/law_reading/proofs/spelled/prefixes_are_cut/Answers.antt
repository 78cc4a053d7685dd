use Rattle.law_reading.proofs.Prefixes.{prefix_cut}
use Rattle.law_reading.proofs.spelled.prefixes_are_cut.Goals as goal

pub returns : goal.returns
returns c = prefix_cut
