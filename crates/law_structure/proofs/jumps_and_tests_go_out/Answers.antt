use Rattle.law_structure.proofs.FarPrograms.{all_tests_far}
use Rattle.law_structure.proofs.Programs.{all_jumps_go_out, all_reach}
use Rattle.law_structure.proofs.jumps_and_tests_go_out.Goals as goal

pub returns-clause-jumps : goal.returns-clause-jumps
returns-clause-jumps c = all_jumps_go_out

pub returns-clause-tests : goal.returns-clause-tests
returns-clause-tests c = all_reach

pub returns-clause-as_far : goal.returns-clause-as_far
returns-clause-as_far c = all_tests_far
