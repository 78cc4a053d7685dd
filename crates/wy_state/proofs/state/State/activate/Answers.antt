use Rattle.wy_state.proofs.Bodies.{activate_goes}
use Rattle.wy_state.proofs.state.State.activate.Goals as goal

pub returns-clause-step : goal.returns-clause-step
returns-clause-step g c p = activate_goes p _ _ _ (c.in_ok-activate.ensures {u = tt})
