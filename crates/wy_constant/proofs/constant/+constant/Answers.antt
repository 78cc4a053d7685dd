use Rattle.wy_table.specs.ClassTable.{table_of}
use Rattle.wy_constant.proofs.Layers.{no_constant}
use Rattle.wy_constant.proofs.constant.+constant.Goals as goal

pub folded-returns-in_default : goal.folded-returns-in_default
folded-returns-in_default t c =
    no_constant (table_of c.args.table.now) c.args.scope.now c.args.e.now c.in_default.not-Literal c.in_default.not-Name c.in_default.not-Group c.in_default.not-Field
    c.in_default.not-Unary c.in_default.not-Binary c.in_default.not-Both c.in_default.not-Either c.in_default.not-Cast c.in_default.not-Choice
