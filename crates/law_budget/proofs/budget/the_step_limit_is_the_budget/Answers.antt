use Rattle.wy_steps.specs.Sets.{nothing, numbers}
use Rattle.law_budget.proofs.BudgetTheorem.{takes_all, adds_up}
use Rattle.law_budget.proofs.budget.the_step_limit_is_the_budget.Goals as goal

pub returns-clause-carrying : goal.returns-clause-carrying
returns-clause-carrying c = takes_all numbers

pub returns-clause-plain : goal.returns-clause-plain
returns-clause-plain c = takes_all nothing

pub returns-clause-sum_carrying : goal.returns-clause-sum_carrying
returns-clause-sum_carrying c = adds_up numbers

pub returns-clause-sum_plain : goal.returns-clause-sum_plain
returns-clause-sum_plain c = adds_up nothing
