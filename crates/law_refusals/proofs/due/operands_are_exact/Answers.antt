use Rattle.law_refusals.proofs.Exact.{casts_exact, assignments_exact, unary_exact, binary_exact, updates_exact, choices_exact}
use Rattle.law_refusals.proofs.due.operands_are_exact.Goals as goal

pub returns : goal.returns
returns c = record { casts = casts_exact; assignments = assignments_exact; unary = unary_exact; binary = binary_exact; updates = updates_exact; choices = choices_exact }
