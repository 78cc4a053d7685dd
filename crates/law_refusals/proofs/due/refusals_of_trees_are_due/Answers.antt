use Rattle.wy_syntax.specs.Declarations.{unit}
use Rattle.law_refusals.proofs.due.refusals_of_trees_are_due.Goals as goal

pub returns-clause-due : goal.returns-clause-due
returns-clause-due c = λ tree well count rule token. c.program_refusals_are_due.ensures.due (unit 0 tree) count rule token (c.nothing_is_missing.ensures tree well)

pub returns-clause-accepted : goal.returns-clause-accepted
returns-clause-accepted c = λ tree well count r. c.program_refusals_are_due.ensures.accepted (unit 0 tree) count r (c.nothing_is_missing.ensures tree well)
