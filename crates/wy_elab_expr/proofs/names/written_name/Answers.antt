use Rattle.wy_elab_expr.proofs.Layers.{no_name}
use Rattle.wy_elab_expr.proofs.names.written_name.Goals as goal

pub returns-in_default : goal.returns-in_default
returns-in_default c = no_name c.args.e.now c.in_default.not-Name
