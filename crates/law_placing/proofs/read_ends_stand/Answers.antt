use Rattle.law_placing.proofs.Endings.{ends_stand}
use Rattle.law_placing.proofs.read_ends_stand.Goals as goal

pub returns : goal.returns
returns c = ends_stand
