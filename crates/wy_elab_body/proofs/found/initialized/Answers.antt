-- What is found in the scope, in the body.
use Rattle.wy_kernel.specs.View.{expression as kernel_expression}
use Rattle.wy_syntax.specs.View.{initial_of}
use Rattle.wy_elab_expr.specs.Elaboration.{initialized}
use Rattle.wy_elab_body.proofs.Expressed.{expressed_in}
use Rattle.wy_elab_body.proofs.found.initialized.Goals as goal

pub returns : goal.returns
returns c = λ w s. expressed_in (λ j t sc. initialized j t sc c.args.ty (initial_of c.args.initial.now) c.args.token) c.args.setting.now w s kernel_expression _ c.args.making.now _ _ c.initialized.ensures
