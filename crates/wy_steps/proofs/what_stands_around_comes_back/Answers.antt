use Rattle.wy_steps.specs.Sets.{numbers}
use Rattle.wy_steps.specs.State.{Carried}
use Rattle.wy_steps.proofs.Steps.{entries_come_back, frame_comes_back}
use Rattle.wy_steps.proofs.what_stands_around_comes_back.Goals as goal

pub returns-clause-entries : goal.returns-clause-entries
returns-clause-entries c = entries_come_back numbers (Carried numbers)

pub returns-clause-entries_of_statements : goal.returns-clause-entries_of_statements
returns-clause-entries_of_statements c = entries_come_back numbers (Unit {0})

pub returns-clause-frame : goal.returns-clause-frame
returns-clause-frame c = frame_comes_back numbers (Carried numbers)

pub returns-clause-frame_of_statements : goal.returns-clause-frame_of_statements
returns-clause-frame_of_statements c = frame_comes_back numbers (Unit {0})
