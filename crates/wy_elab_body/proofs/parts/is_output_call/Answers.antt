use Rattle.wy_table.specs.ClassTable.{table_of}
use Rattle.wy_elab_body.proofs.Printing.{no_call}
use Rattle.wy_elab_body.proofs.parts.is_output_call.Goals as goal

pub returns-in_default : goal.returns-in_default
returns-in_default c = no_call (table_of c.args.table.now) c.args.scope.now c.args.e.now c.in_default.not-InvokeOn
