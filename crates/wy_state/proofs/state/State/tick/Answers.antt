use Rattle.wy_state.proofs.Budget.{tick_goes, tick_stops}
use Rattle.wy_state.proofs.state.State.tick.Goals as goal

pub returns-then-self-eq0-clause-step : goal.returns-then-self-eq0-clause-step
returns-then-self-eq0-clause-step g c p = tick_stops p _ c.if-self-eq0.true

pub returns-clause-step : goal.returns-clause-step
returns-clause-step g c p = tick_goes p _ c.if-self-eq0.false
