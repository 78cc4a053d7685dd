use Rattle.law_well_formed.proofs.Keywords.{no_keywords}
use Rattle.law_well_formed.proofs.names_are_no_keywords.Goals as goal

pub returns : goal.returns
returns c = no_keywords
