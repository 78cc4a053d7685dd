use Rattle.wy_state.proofs.Budget.{input_ends, byte_goes}
use Rattle.wy_state.proofs.state.State.next_byte.Goals as goal

pub returns-in-None-clause-step : goal.returns-in-None-clause-step
returns-in-None-clause-step g c p = input_ends p _ c.in-None.ensures.cases

pub returns-in-Some-clause-step : goal.returns-in-Some-clause-step
returns-in-Some-clause-step g c p = byte_goes p _ _ _ c.in-Some.ensures.cases.0
