use Rattle.law_typed_states.proofs.Runs.{tests_are_exact}
use Rattle.law_typed_states.proofs.the_subtypings_of_a_run_and_of_types_are_one.Goals as goal

pub returns : goal.returns
returns c = tests_are_exact
