use Rattle.law_reading.proofs.BackEnds.{ends_told}
use Rattle.law_reading.proofs.EndsApart.{ends_back}
use Rattle.law_reading.proofs.spelled.recorded_ends_are_read_back.Goals as goal

pub returns-clause-told : goal.returns-clause-told
returns-clause-told c = ends_told

pub returns-clause-whole : goal.returns-clause-whole
returns-clause-whole c = ends_back
