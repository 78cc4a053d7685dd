use Rattle.law_refusals.proofs.Nested.{due, block_due}
use Rattle.law_refusals.proofs.due.statement_refusals_are_due.Goals as goal

pub returns : goal.returns
returns c = record { statements = due; blocks = block_due }
