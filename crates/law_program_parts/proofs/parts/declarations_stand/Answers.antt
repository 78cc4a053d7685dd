use Rattle.law_program_parts.proofs.Made.{declarations_stand}
use Rattle.law_program_parts.proofs.parts.declarations_stand.Goals as goal

pub returns : goal.returns
returns c = declarations_stand
