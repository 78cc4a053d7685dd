use Rattle.wy_page.proofs.Beginnings.{begins}
use Rattle.wy_page.proofs.front.fronts_begin_traces.Goals as goal

pub returns : goal.returns
returns c = begins c.heads_are_spelled.ensures
