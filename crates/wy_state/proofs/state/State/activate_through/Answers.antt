use Rattle.wy_state.proofs.Bodies.{activate_through_goes}
use Rattle.wy_state.proofs.state.State.activate_through.Goals as goal

pub returns-clause-step : goal.returns-clause-step
returns-clause-step g c p = activate_through_goes p _ _ _ _ (c.in_ok-test.ensures {u = tt})
