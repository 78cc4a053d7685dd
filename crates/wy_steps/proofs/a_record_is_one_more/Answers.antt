use Rattle.wy_steps.specs.Sets.{numbers}
use Rattle.wy_steps.proofs.Steps.{appends_one, creates_one, writes_one}
use Rattle.wy_steps.proofs.a_record_is_one_more.Goals as goal

pub returns-clause-noted : goal.returns-clause-noted
returns-clause-noted c = appends_one numbers

pub returns-clause-written : goal.returns-clause-written
returns-clause-written c = writes_one numbers

pub returns-clause-created : goal.returns-clause-created
returns-clause-created c = creates_one numbers
