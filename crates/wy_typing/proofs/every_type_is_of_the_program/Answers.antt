use Rattle.wy_typing.proofs.Ranges.{types_are_known}
use Rattle.wy_typing.proofs.every_type_is_of_the_program.Goals as goal

pub returns : goal.returns
returns c = types_are_known
