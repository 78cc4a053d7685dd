use Rattle.wy_steps.specs.Sets.{nothing, numbers}
use Rattle.law_counted.proofs.ActiveTheorem.{tests_active, catches_active, arms_controlled, expressions_add_none, statements_keep, end_with_reach, parent_greatest}
use Rattle.law_counted.proofs.active.entries_are_active_to_the_end_of_their_reach.Goals as goal

pub returns-clause-tests : goal.returns-clause-tests
returns-clause-tests c = tests_active nothing

pub returns-clause-tests_carrying : goal.returns-clause-tests_carrying
returns-clause-tests_carrying c = tests_active numbers

pub returns-clause-catches : goal.returns-clause-catches
returns-clause-catches c = catches_active nothing

pub returns-clause-catches_carrying : goal.returns-clause-catches_carrying
returns-clause-catches_carrying c = catches_active numbers

pub returns-clause-arms : goal.returns-clause-arms
returns-clause-arms c = arms_controlled nothing

pub returns-clause-arms_carrying : goal.returns-clause-arms_carrying
returns-clause-arms_carrying c = arms_controlled numbers

pub returns-clause-expressions : goal.returns-clause-expressions
returns-clause-expressions c = expressions_add_none nothing

pub returns-clause-expressions_carrying : goal.returns-clause-expressions_carrying
returns-clause-expressions_carrying c = expressions_add_none numbers

pub returns-clause-statements : goal.returns-clause-statements
returns-clause-statements c = statements_keep nothing

pub returns-clause-statements_carrying : goal.returns-clause-statements_carrying
returns-clause-statements_carrying c = statements_keep numbers

pub returns-clause-reach : goal.returns-clause-reach
returns-clause-reach c = end_with_reach nothing

pub returns-clause-reach_carrying : goal.returns-clause-reach_carrying
returns-clause-reach_carrying c = end_with_reach numbers

pub returns-clause-greatest : goal.returns-clause-greatest
returns-clause-greatest c = parent_greatest nothing

pub returns-clause-greatest_carrying : goal.returns-clause-greatest_carrying
returns-clause-greatest_carrying c = parent_greatest numbers
