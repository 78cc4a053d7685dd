-- What is found in the scope, in the body.
use Rattle.wy_syntax.specs.View.{named_of}
use Rattle.wy_elab_body.specs.Parts.{caught_class}
use Rattle.wy_elab_body.proofs.Expressed.{expressed_in}
use Rattle.wy_elab_body.proofs.found.caught_class.Goals as goal

pub returns : goal.returns
unfolding caught_class
returns c = λ w s. expressed_in (λ j t. caught_class j t (named_of c.args.class.now) c.args.site) c.args.setting.now w s (λ k. k) _ c.args.making.now c.args.texts.now c.args.texts.now (λ j h. c.class_taken.ensures c.args.texts.now)
