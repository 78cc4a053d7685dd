use Rattle.law_structure.proofs.Texts.{numbers_are_in_order}
use Rattle.law_structure.proofs.numbers_follow_the_text.Goals as goal

pub returns : goal.returns
returns c = numbers_are_in_order
