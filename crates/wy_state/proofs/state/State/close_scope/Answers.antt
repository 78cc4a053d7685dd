use Rattle.wy_state.proofs.Bodies.{close_goes}
use Rattle.wy_state.proofs.state.State.close_scope.Goals as goal

pub returns-clause-step : goal.returns-clause-step
returns-clause-step g c p = close_goes p _ _ (c.in_ok-close_scope.ensures {u = tt}).closed
