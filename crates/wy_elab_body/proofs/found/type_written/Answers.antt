-- What is found in the scope, in the body.
use Rattle.wy_syntax.specs.View.{type_seen}
use Rattle.wy_elab_expr.specs.Elaboration.{type_written}
use Rattle.wy_elab_body.proofs.Expressed.{expressed_in}
use Rattle.wy_elab_body.proofs.found.type_written.Goals as goal

pub returns : goal.returns
returns c = λ w s. expressed_in (λ j t sc. type_written t (type_seen c.args.ty.now)) c.args.setting.now w s (λ t. t) _ c.args.making.now c.args.texts.now c.args.texts.now (λ j h. c.type_written.ensures c.args.texts.now)
