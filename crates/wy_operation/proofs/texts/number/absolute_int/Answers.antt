use Rattle.std.proofs.Common.{◌∙◌, FitsSigned}
use Rattle.std.proofs.lemmas.Int.{to_z-of_z}
use Rattle.std.specs.Int.{w32}
use Rattle.wy_operation.proofs.Numbers.{below_zero}
use Rattle.wy_operation.proofs.texts.number.absolute_int.Goals as goal

pub returns-then-n-lt0 : goal.returns-then-n-lt0
returns-then-n-lt0 c =
    let fits : FitsSigned w32 c.wrapping_neg.result = record { sfits = c.wrapping_neg.type_inv } in
    to_z-of_z w32 c.wrapping_neg.result fits ∙ below_zero w32 c.args.n _ c.ranges.n c.if-n-lt0.true c.wrapping_neg.ensures
