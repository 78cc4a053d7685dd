-- What is found in the scope, in the body.
use Rattle.wy_kernel.specs.View.{expression as kernel_expression}
use Rattle.wy_syntax.specs.View.{expression_of}
use Rattle.wy_elab_body.specs.Parts.{returned}
use Rattle.wy_elab_body.specs.Views.{outcome_of}
use Rattle.wy_elab_body.proofs.Expressed.{expressed_in}
use Rattle.wy_elab_body.proofs.found.returned.Goals as goal

pub returns : goal.returns
returns c = λ w s. expressed_in (λ j t. returned j t (outcome_of c.args.outcome) (expression_of c.args.value.now) c.args.token) c.args.setting.now w s kernel_expression _ c.args.making.now _ _ c.returned.ensures
