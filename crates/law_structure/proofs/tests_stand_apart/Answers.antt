use Rattle.law_structure.proofs.TokenKinds.{no_test_decides}
use Rattle.law_structure.proofs.tests_stand_apart.Goals as goal

pub returns : goal.returns
returns c = no_test_decides
