use Rattle.wy_steps.specs.Sets.{nothing, numbers}
use Rattle.law_counted.proofs.ActiveTheorem.{control, none_at_end}
use Rattle.law_counted.proofs.active.control_is_of_the_body.Goals as goal

pub returns-clause-control : goal.returns-clause-control
returns-clause-control c = control nothing

pub returns-clause-control_carrying : goal.returns-clause-control_carrying
returns-clause-control_carrying c = control numbers

pub returns-clause-ended : goal.returns-clause-ended
returns-clause-ended c = none_at_end nothing

pub returns-clause-ended_carrying : goal.returns-clause-ended_carrying
returns-clause-ended_carrying c = none_at_end numbers
