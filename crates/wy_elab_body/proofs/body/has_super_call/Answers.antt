use Rattle.std.proofs.Common.{ap, sym, ◌∙◌}
use Rattle.wy_elab_body.specs.Places.{calls_superclass}
use Rattle.wy_elab_body.proofs.body.has_super_call.Goals as goal

pub returns : goal.returns
returns c = λ w s. c.calls_superclass.ensures ∙ ap (λ t. calls_superclass t c.args.class) (sym s.table)
