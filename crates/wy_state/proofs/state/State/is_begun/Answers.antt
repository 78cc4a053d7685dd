use Rattle.wy_state.proofs.Slots.{begun_goes}
use Rattle.wy_state.proofs.state.State.is_begun.Goals as goal

pub returns-clause-step : goal.returns-clause-step
returns-clause-step g c p = begun_goes p _ _ _ c.is_begun.ensures
