use Rattle.law_own_traces.proofs.Rows.{programs_keep_library}
use Rattle.law_own_traces.proofs.library.programs_keep_the_library.Goals as goal

pub returns : goal.returns
returns c = programs_keep_library
