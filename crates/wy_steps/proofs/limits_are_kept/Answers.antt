use Rattle.wy_steps.specs.Sets.{numbers}
use Rattle.wy_steps.proofs.Steps.{creates_within, makes_within, records_within, writes_within}
use Rattle.wy_steps.proofs.limits_are_kept.Goals as goal

pub returns-clause-records : goal.returns-clause-records
returns-clause-records c = records_within numbers

pub returns-clause-written : goal.returns-clause-written
returns-clause-written c = writes_within numbers

pub returns-clause-created : goal.returns-clause-created
returns-clause-created c = creates_within numbers

pub returns-clause-made : goal.returns-clause-made
returns-clause-made c = makes_within numbers
