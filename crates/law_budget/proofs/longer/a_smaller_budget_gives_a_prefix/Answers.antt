use Rattle.wy_steps.specs.Sets.{nothing, numbers}
use Rattle.law_budget.proofs.LongerTheorem.{front_of_larger, same_with_larger}
use Rattle.law_budget.proofs.longer.a_smaller_budget_gives_a_prefix.Goals as goal

pub returns-clause-carrying : goal.returns-clause-carrying
returns-clause-carrying c = front_of_larger numbers

pub returns-clause-plain : goal.returns-clause-plain
returns-clause-plain c = front_of_larger nothing

pub returns-clause-same_carrying : goal.returns-clause-same_carrying
returns-clause-same_carrying c = same_with_larger numbers

pub returns-clause-same_plain : goal.returns-clause-same_plain
returns-clause-same_plain c = same_with_larger nothing
