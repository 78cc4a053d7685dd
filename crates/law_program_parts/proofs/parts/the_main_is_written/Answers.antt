use Rattle.law_program_parts.proofs.Mains.{mains_are_found}
use Rattle.law_program_parts.proofs.parts.the_main_is_written.Goals as goal

pub returns : goal.returns
returns c = mains_are_found
