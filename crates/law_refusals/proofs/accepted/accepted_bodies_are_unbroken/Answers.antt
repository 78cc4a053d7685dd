use Rattle.law_refusals.proofs.AcceptedBodies.{methods_unbroken, constructors_unbroken, implied_unbroken, fields_unbroken}
use Rattle.law_refusals.proofs.accepted.accepted_bodies_are_unbroken.Goals as goal

pub returns : goal.returns
returns c = record { methods = methods_unbroken; constructors = constructors_unbroken; implied = implied_unbroken; fields = fields_unbroken }
