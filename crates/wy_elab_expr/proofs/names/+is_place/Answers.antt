use Rattle.wy_elab_expr.proofs.Layers.{no_place}
use Rattle.wy_elab_expr.proofs.names.+is_place.Goals as goal

pub returns-in_default : goal.returns-in_default
returns-in_default t c = no_place c.args.e.now c.in_default.not-Name c.in_default.not-Group c.in_default.not-Field c.in_default.not-SuperField c.in_default.not-Element
