use Rattle.wy_state.proofs.Bodies.{same_goes}
use Rattle.wy_state.proofs.state.State.begin_early.Goals as goal

pub returns-clause-step : goal.returns-clause-step
returns-clause-step g c p = same_goes p _ _ (c.in_ok-begin.ensures {u = tt})
