use Rattle.wy_steps.specs.Sets.{numbers}
use Rattle.wy_steps.proofs.Steps.{takes_one}
use Rattle.wy_steps.proofs.a_form_takes_one_step.Goals as goal

pub returns : goal.returns
returns c = takes_one numbers
