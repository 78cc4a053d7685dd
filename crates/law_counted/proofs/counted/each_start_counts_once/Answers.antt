use Rattle.wy_steps.specs.Sets.{nothing, numbers}
use Rattle.law_counted.proofs.CountedTheorem.{each_once, none_without, statements_add, expressions_add}
use Rattle.law_counted.proofs.counted.each_start_counts_once.Goals as goal

pub returns-clause-once : goal.returns-clause-once
returns-clause-once c = each_once nothing

pub returns-clause-once_carrying : goal.returns-clause-once_carrying
returns-clause-once_carrying c = each_once numbers

pub returns-clause-unstarted : goal.returns-clause-unstarted
returns-clause-unstarted c = none_without nothing

pub returns-clause-unstarted_carrying : goal.returns-clause-unstarted_carrying
returns-clause-unstarted_carrying c = none_without numbers

pub returns-clause-statements : goal.returns-clause-statements
returns-clause-statements c = statements_add nothing

pub returns-clause-statements_carrying : goal.returns-clause-statements_carrying
returns-clause-statements_carrying c = statements_add numbers

pub returns-clause-expressions : goal.returns-clause-expressions
returns-clause-expressions c = expressions_add nothing

pub returns-clause-expressions_carrying : goal.returns-clause-expressions_carrying
returns-clause-expressions_carrying c = expressions_add numbers
