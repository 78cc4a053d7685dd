use Rattle.wy_steps.specs.Sets.{nothing, numbers}
use Rattle.law_reached.proofs.Laws.{items_needed}
use Rattle.law_reached.proofs.each_item_is_needed.Goals as goal

pub returns-clause-needed : goal.returns-clause-needed
returns-clause-needed c = items_needed nothing

pub returns-clause-needed_carrying : goal.returns-clause-needed_carrying
returns-clause-needed_carrying c = items_needed numbers
