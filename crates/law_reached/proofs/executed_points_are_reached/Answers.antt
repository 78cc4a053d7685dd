use Rattle.wy_steps.specs.Sets.{nothing, numbers}
use Rattle.law_reached.proofs.Laws.{points_reached}
use Rattle.law_reached.proofs.executed_points_are_reached.Goals as goal

pub returns-clause-reached : goal.returns-clause-reached
returns-clause-reached c = points_reached nothing

pub returns-clause-reached_carrying : goal.returns-clause-reached_carrying
returns-clause-reached_carrying c = points_reached numbers
