-- What is found in the scope, in the body.
use Rattle.std.specs.Prelude.{map}
use Rattle.wy_syntax.specs.View.{expression_of, row_of}
use Rattle.wy_elab_body.specs.Parts.{object_called}
use Rattle.wy_elab_body.proofs.Expressed.{expressed_in}
use Rattle.wy_elab_body.proofs.calls.object_called.Goals as goal

pub returns : goal.returns
returns c = λ w s. expressed_in (λ j t. object_called j t (row_of (map expression_of c.args.args.now)) c.args.token) c.args.setting.now w s (λ u. u) _ c.args.making.now _ _ c.no_call_as_written.ensures
