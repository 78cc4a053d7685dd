use Rattle.std.proofs.Common.{arith}
use Rattle.wy_state.proofs.Bodies.{enter_goes}
use Rattle.wy_state.proofs.state.State.enter.Goals as goal

pub returns-clause-step : goal.returns-clause-step
returns-clause-step g c p = enter_goes p _ _ c.in-Ok.locals _ (c.in-Ok-enter.ensures {u = tt}).entered (omega arith)
