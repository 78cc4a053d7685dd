use Rattle.wy_state.proofs.Bodies.{open_goes}
use Rattle.wy_state.proofs.state.State.open_scope.Goals as goal

pub returns-clause-step : goal.returns-clause-step
returns-clause-step g c p = open_goes p _ c.in_ok-scope.scope _ (c.in_ok-scope.ensures {u = tt}).opened
