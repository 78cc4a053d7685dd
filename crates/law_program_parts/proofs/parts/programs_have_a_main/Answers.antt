use Rattle.law_program_parts.proofs.Main.{texts_have_main}
use Rattle.law_program_parts.proofs.parts.programs_have_a_main.Goals as goal

pub returns : goal.returns
returns c = texts_have_main c.trees_have_a_main.ensures c.trees_declare_few.ensures
