use Rattle.law_refusals.proofs.Refused.{due, enough}
use Rattle.law_refusals.proofs.due.refusals_are_due.Goals as goal

pub returns : goal.returns
returns c = record { due = due; enough = enough }
