use Rattle.law_refusals.proofs.Given.{nothing_broken}
use Rattle.law_refusals.proofs.due.fields_given_nothing_break_nothing.Goals as goal

pub returns : goal.returns
returns c = nothing_broken
