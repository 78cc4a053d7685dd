use Rattle.wy_state.proofs.Slots.{length_goes}
use Rattle.wy_state.proofs.state.State.length_of.Goals as goal

pub returns-in-Some : goal.returns-in-Some
returns-in-Some g c p = length_goes p _ _ _ c.in-Some.ensures
