use Rattle.std.proofs.Common.{refl}
use Rattle.wy_table.specs.ClassTable.{table_of}
use Rattle.wy_elab_expr.proofs.Judging.{chosen_by}
use Rattle.wy_elab_expr.proofs.arguments.chosen.Goals as goal

pub returns : goal.returns
returns c = λ j h texts.
    chosen_by (table_of c.args.table.now) j h c.args.ty c.args.name.now c.args.types.now c.args.token c.choose.result texts
    (j.choice c.args.ty c.args.name.now c.args.types.now) refl (λ m k. (c.choose.ensures.chosen m).1 k) (λ rule k. (c.choose.ensures.refused rule).1 k)
