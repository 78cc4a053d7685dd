use Rattle.law_refusals.proofs.Silent.{quiet}
use Rattle.law_refusals.proofs.due.quiet_forms_break_nothing.Goals as goal

pub returns : goal.returns
returns c = quiet
