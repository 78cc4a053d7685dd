use Rattle.wy_steps.specs.Sets.{numbers}
use Rattle.wy_steps.proofs.Steps.{leaves_others, reads_what_was_written, replaces_nothing, takes_the_value}
use Rattle.wy_steps.proofs.a_slot_holds_what_was_written.Goals as goal

pub returns-clause-written : goal.returns-clause-written
returns-clause-written c = reads_what_was_written numbers

pub returns-clause-others : goal.returns-clause-others
returns-clause-others c = leaves_others numbers

pub returns-clause-created : goal.returns-clause-created
returns-clause-created c = replaces_nothing numbers

pub returns-clause-declared : goal.returns-clause-declared
returns-clause-declared c = takes_the_value numbers
