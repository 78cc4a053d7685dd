use Rattle.law_program_parts.proofs.Tables.{trees_have_tables}
use Rattle.law_program_parts.proofs.parts.trees_have_tables.Goals as goal

pub returns : goal.returns
returns c = trees_have_tables
