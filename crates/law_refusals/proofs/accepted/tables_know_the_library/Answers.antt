use Rattle.law_refusals.proofs.Tables.{tables_know}
use Rattle.law_refusals.proofs.accepted.tables_know_the_library.Goals as goal

pub returns : goal.returns
returns c = tables_know
