use Rattle.wy_steps.specs.Sets.{nothing, numbers}
use Rattle.law_in_range.proofs.Runs.{runs_in_range}
use Rattle.law_in_range.proofs.runs_are_in_range.Goals as goal

pub returns-clause-runs : goal.returns-clause-runs
returns-clause-runs c = runs_in_range nothing

pub returns-clause-runs_carrying : goal.returns-clause-runs_carrying
returns-clause-runs_carrying c = runs_in_range numbers
