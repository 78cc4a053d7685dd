use Rattle.law_judgement.proofs.One.{one}
use Rattle.law_judgement.proofs.one_judgement_stands.Goals as goal

pub returns : goal.returns
returns c = one
