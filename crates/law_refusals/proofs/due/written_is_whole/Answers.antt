use Rattle.law_refusals.proofs.Whole.{whole}
use Rattle.law_refusals.proofs.due.written_is_whole.Goals as goal

pub returns : goal.returns
returns c = whole
