use Rattle.wy_steps.specs.Sets.{nothing, numbers}
use Rattle.law_held.proofs.Theorem.{held_was_last_had, stores_have_held}
use Rattle.law_held.proofs.held_is_what_the_store_last_had.Goals as goal

pub returns-clause-last_had : goal.returns-clause-last_had
returns-clause-last_had c = λ text p fits library own. held_was_last_had nothing text p (c.runs_are_in_range.ensures.runs text p fits library own)

pub returns-clause-last_had_carrying : goal.returns-clause-last_had_carrying
returns-clause-last_had_carrying c = λ text p fits library own. held_was_last_had numbers text p (c.runs_are_in_range.ensures.runs_carrying text p fits library own)

pub returns-clause-stored : goal.returns-clause-stored
returns-clause-stored c = stores_have_held nothing

pub returns-clause-stored_carrying : goal.returns-clause-stored_carrying
returns-clause-stored_carrying c = stores_have_held numbers
