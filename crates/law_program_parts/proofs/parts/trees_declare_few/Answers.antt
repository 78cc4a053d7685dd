use Rattle.law_program_parts.proofs.Tables.{trees_declare_few}
use Rattle.law_program_parts.proofs.parts.trees_declare_few.Goals as goal

pub returns : goal.returns
returns c = trees_declare_few
