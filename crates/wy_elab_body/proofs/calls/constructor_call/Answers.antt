-- What is found in the scope, in the body.
use Rattle.std.specs.Prelude.{map}
use Rattle.wy_kernel.specs.View.{expression as kernel_expression}
use Rattle.wy_syntax.specs.View.{expression_of, row_of}
use Rattle.wy_elab_body.specs.Parts.{constructor_call}
use Rattle.wy_elab_body.proofs.Expressed.{expressed_in}
use Rattle.wy_elab_body.proofs.calls.constructor_call.Goals as goal

pub returns : goal.returns
returns c = λ w s. expressed_in (λ j t. constructor_call j t c.args.class (row_of (map expression_of c.args.args.now)) c.args.token) c.args.setting.now w s kernel_expression _ c.args.making.now _ _ c.called_as_written.ensures
