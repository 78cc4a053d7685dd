-- What is found in the scope, in the body.
use Rattle.std.specs.Prelude.{[]}
use Rattle.wy_kernel.specs.View.{expression as kernel_expression}
use Rattle.wy_elab_body.specs.Parts.{constructor_called}
use Rattle.wy_elab_body.proofs.Expressed.{expressed_in}
use Rattle.wy_elab_body.proofs.calls.constructor_called.Goals as goal

pub returns : goal.returns
returns c = λ w s. expressed_in (λ j t. constructor_called j t c.args.class [] c.args.token) c.args.setting.now w s kernel_expression _ c.args.making.now _ _ c.called_plainly.ensures
