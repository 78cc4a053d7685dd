use Rattle.law_reached.proofs.Apart.{in_one_body}
use Rattle.law_reached.proofs.Arms.{no_arm_at_test}
use Rattle.law_reached.proofs.programs_stand_apart.Goals as goal

pub returns : goal.returns
returns c = λ p dense choices tests. record { bodies = in_one_body p dense choices; tests = no_arm_at_test p tests }
