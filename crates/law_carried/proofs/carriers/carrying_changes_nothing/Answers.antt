use Rattle.wy_steps.specs.Sets.{numbers}
use Rattle.law_carried.proofs.Whole.{same_events, same_output, same_tail}
use Rattle.law_carried.proofs.carriers.carrying_changes_nothing.Goals as goal

pub returns-clause-events : goal.returns-clause-events
returns-clause-events c = same_events numbers

pub returns-clause-output : goal.returns-clause-output
returns-clause-output c = same_output numbers

pub returns-clause-tail : goal.returns-clause-tail
returns-clause-tail c = same_tail numbers
