use Rattle.law_structure.proofs.Texts.{numbers_are_dense}
use Rattle.law_structure.proofs.each_number_is_one_statement.Goals as goal

pub returns : goal.returns
returns c = numbers_are_dense
