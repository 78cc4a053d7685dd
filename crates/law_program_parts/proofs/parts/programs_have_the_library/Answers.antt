use Rattle.law_program_parts.proofs.DeclaredTexts.{programs_have_library}
use Rattle.law_program_parts.proofs.parts.programs_have_the_library.Goals as goal

pub returns : goal.returns
returns c = programs_have_library
