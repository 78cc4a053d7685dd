use Rattle.law_refusals.proofs.Bodies.{method_due, constructor_due, implied_due, field_due}
use Rattle.law_refusals.proofs.due.body_refusals_are_due.Goals as goal

pub returns : goal.returns
returns c = record { methods = method_due; constructors = constructor_due; implied = implied_due; fields = field_due }
