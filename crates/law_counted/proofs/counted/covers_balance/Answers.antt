use Rattle.wy_steps.specs.Sets.{nothing, numbers}
use Rattle.law_counted.proofs.CountedTheorem.{balance, goes_on, takes_steps}
use Rattle.law_counted.proofs.counted.covers_balance.Goals as goal

pub returns-clause-balance : goal.returns-clause-balance
returns-clause-balance c = balance nothing

pub returns-clause-balance_carrying : goal.returns-clause-balance_carrying
returns-clause-balance_carrying c = balance numbers

pub returns-clause-going_on : goal.returns-clause-going_on
returns-clause-going_on c = goes_on nothing

pub returns-clause-going_on_carrying : goal.returns-clause-going_on_carrying
returns-clause-going_on_carrying c = goes_on numbers

pub returns-clause-steps : goal.returns-clause-steps
returns-clause-steps c = takes_steps nothing

pub returns-clause-steps_carrying : goal.returns-clause-steps_carrying
returns-clause-steps_carrying c = takes_steps numbers
