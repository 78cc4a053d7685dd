use Rattle.law_program_parts.proofs.Alone.{mains_stand_alone}
use Rattle.law_program_parts.proofs.parts.mains_stand_alone.Goals as goal

pub returns : goal.returns
returns c = mains_stand_alone
