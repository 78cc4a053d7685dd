use Rattle.wy_state.proofs.Slots.{read_local, read_made}
use Rattle.wy_state.proofs.state.State.read.Goals as goal

pub returns-in-Some : goal.returns-in-Some
returns-in-Some g c p = rw c.in-Local.is (read_local p _ _ _ _ c.in-Some.ensures)

pub returns-in-Some-find : goal.returns-in-Some-find
returns-in-Some-find g c p = read_made p _ _ _ c.in-Some-find.ensures
