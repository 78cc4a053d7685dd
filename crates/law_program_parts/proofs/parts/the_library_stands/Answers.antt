use Rattle.law_program_parts.proofs.Made.{library_stands}
use Rattle.law_program_parts.proofs.parts.the_library_stands.Goals as goal

pub returns : goal.returns
returns c = library_stands
