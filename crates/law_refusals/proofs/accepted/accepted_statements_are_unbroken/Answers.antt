use Rattle.law_refusals.proofs.AcceptedPrograms.{statements_unbroken}
use Rattle.law_refusals.proofs.accepted.accepted_statements_are_unbroken.Goals as goal

pub returns : goal.returns
returns c = statements_unbroken
