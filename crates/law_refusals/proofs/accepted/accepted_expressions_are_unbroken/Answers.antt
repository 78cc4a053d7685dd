use Rattle.law_refusals.proofs.Breaches.{accepted}
use Rattle.law_refusals.proofs.accepted.accepted_expressions_are_unbroken.Goals as goal

pub returns : goal.returns
returns c = accepted
