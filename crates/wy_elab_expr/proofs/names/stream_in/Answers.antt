use Rattle.wy_table.specs.ClassTable.{table_of}
use Rattle.wy_elab_expr.proofs.Layers.{no_stream}
use Rattle.wy_elab_expr.proofs.names.stream_in.Goals as goal

pub returns-in_default : goal.returns-in_default
returns-in_default c = no_stream (table_of c.args.table.now) c.args.scope.now c.args.e.now c.in_default.not-Field
