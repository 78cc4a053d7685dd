use Rattle.wy_steps.specs.Sets.{nothing, numbers}
use Rattle.law_held.proofs.Stores.{stores_left_so}
use Rattle.law_held.proofs.stores_are_as_the_steps_leave_them.Goals as goal

pub returns-clause-left : goal.returns-clause-left
returns-clause-left c = stores_left_so nothing

pub returns-clause-left_carrying : goal.returns-clause-left_carrying
returns-clause-left_carrying c = stores_left_so numbers
