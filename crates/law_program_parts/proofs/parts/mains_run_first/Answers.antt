use Rattle.law_program_parts.proofs.MainRows.{mains_run_first}
use Rattle.law_program_parts.proofs.parts.mains_run_first.Goals as goal

pub returns : goal.returns
returns c = mains_run_first
