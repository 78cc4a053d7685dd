use Rattle.law_refusals.proofs.Programs.{due, accepted}
use Rattle.law_refusals.proofs.due.program_refusals_are_due.Goals as goal

pub returns : goal.returns
returns c = record { due = due; accepted = accepted }
