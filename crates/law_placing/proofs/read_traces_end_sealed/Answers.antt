use Rattle.law_placing.proofs.Sealing.{end_sealed}
use Rattle.law_placing.proofs.read_traces_end_sealed.Goals as goal

pub returns : goal.returns
returns c = end_sealed
