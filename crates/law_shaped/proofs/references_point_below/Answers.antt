use Rattle.wy_steps.specs.Sets.{nothing, numbers}
use Rattle.law_shaped.proofs.Theorem.{counts_are_shaped, records_are_shaped, coverage_is_shaped, last_is_shaped}
use Rattle.law_shaped.proofs.references_point_below.Goals as goal

pub returns-clause-records : goal.returns-clause-records
returns-clause-records c = records_are_shaped nothing

pub returns-clause-records_carrying : goal.returns-clause-records_carrying
returns-clause-records_carrying c = records_are_shaped numbers

pub returns-clause-coverage : goal.returns-clause-coverage
returns-clause-coverage c = coverage_is_shaped nothing

pub returns-clause-last : goal.returns-clause-last
returns-clause-last c = last_is_shaped nothing

pub returns-clause-counts : goal.returns-clause-counts
returns-clause-counts c = counts_are_shaped nothing
