use Rattle.law_refusals.proofs.AcceptedPrograms.{programs_unbroken}
use Rattle.law_refusals.proofs.accepted.accepted_programs_are_unbroken.Goals as goal

pub returns : goal.returns
returns c = programs_unbroken
