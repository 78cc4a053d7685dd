use Rattle.wy_state.proofs.Budget.{left_goes}
use Rattle.wy_state.proofs.state.State.steps_left.Goals as goal

pub returns-clause-step : goal.returns-clause-step
returns-clause-step g c p = left_goes p _
