use Rattle.wy_state.proofs.Slots.{put_made_goes}
use Rattle.wy_state.proofs.state.State.put_made.Goals as goal

pub returns-clause-step : goal.returns-clause-step
returns-clause-step g c p = put_made_goes p _ _ _ _ _ c.in-Some.ensures c.write.ensures
