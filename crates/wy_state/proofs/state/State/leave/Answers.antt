use Rattle.wy_state.proofs.Bodies.{leave_goes}
use Rattle.wy_state.proofs.state.State.leave.Goals as goal

pub returns-clause-step : goal.returns-clause-step
returns-clause-step g c p = leave_goes p _ _ c.leave.ensures
