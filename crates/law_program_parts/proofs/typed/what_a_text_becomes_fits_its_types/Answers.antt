use Rattle.law_program_parts.proofs.Programs.{methods_have_bodies, programs_are_typed}
use Rattle.law_program_parts.proofs.typed.what_a_text_becomes_fits_its_types.Goals as goal

pub returns-clause-bodies : goal.returns-clause-bodies
returns-clause-bodies c = methods_have_bodies

pub returns-clause-types : goal.returns-clause-types
returns-clause-types c = programs_are_typed
