-- What is found in the scope, in the body.
use Rattle.wy_elab_expr.specs.Views.{inner_of}
use Rattle.wy_syntax.specs.View.{expression_of}
use Rattle.wy_elab_body.specs.Parts.{condition}
use Rattle.wy_elab_body.proofs.Expressed.{expressed_in}
use Rattle.wy_elab_body.proofs.found.condition.Goals as goal

pub returns : goal.returns
returns c = λ w s. expressed_in (λ j t. condition j t (expression_of c.args.test.now) c.args.site) c.args.setting.now w s inner_of _ c.args.making.now _ _ c.condition.ensures
