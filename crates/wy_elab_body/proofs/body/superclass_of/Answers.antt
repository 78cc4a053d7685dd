use Rattle.std.proofs.Common.{ap, sym, ◌∙◌}
use Rattle.std.specs.Prelude.{slice_get}
use Rattle.wy_constant.specs.Fields.{superclass}
use Rattle.wy_elab_body.specs.Bodies.{or_object}
use Rattle.wy_elab_body.proofs.body.superclass_of.Goals as goal

pub returns : goal.returns
returns c = λ w s. c.above_in.ensures ∙ ap (λ t. or_object (superclass (slice_get t.classes c.args.class))) (sym s.table)
