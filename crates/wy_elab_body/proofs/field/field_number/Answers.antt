use Rattle.std.proofs.Common.{ap, sym, ◌∙◌}
use Rattle.wy_constant.specs.Fields.{declared_field}
use Rattle.wy_elab_body.specs.Bodies.{or_zero}
use Rattle.wy_elab_body.proofs.field.field_number.Goals as goal

pub returns : goal.returns
returns c = λ w s. c.number_in.ensures ∙ ap (λ t. or_zero (declared_field t.fields c.args.class c.args.name.now)) (sym s.table)
