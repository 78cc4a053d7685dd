-- What is found in the scope, in the body.
use Rattle.wy_kernel.specs.View.{act}
use Rattle.wy_syntax.specs.View.{expression_of}
use Rattle.wy_elab_body.specs.Parts.{performed}
use Rattle.wy_elab_body.proofs.Expressed.{expressed_in}
use Rattle.wy_elab_body.proofs.found.performed.Goals as goal

pub returns : goal.returns
returns c = λ w s. expressed_in (λ j t. performed j t (expression_of c.args.value.now)) c.args.setting.now w s act _ c.args.making.now _ _ c.performed.ensures
