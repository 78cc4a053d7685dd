use Rattle.wy_steps.specs.Sets.{nothing, numbers}
use Rattle.law_typed_states.proofs.Runs.{states_are_typed}
use Rattle.law_typed_states.proofs.states_are_typed.Goals as goal

pub returns-clause-states : goal.returns-clause-states
returns-clause-states c = states_are_typed nothing

pub returns-clause-states_carrying : goal.returns-clause-states_carrying
returns-clause-states_carrying c = states_are_typed numbers
