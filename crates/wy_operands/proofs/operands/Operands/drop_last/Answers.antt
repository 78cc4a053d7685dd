use Rattle.std.proofs.Common.{◌∙◌, ap, reverse}
use Rattle.wy_operands.specs.Layout.{values_of, carried}
use Rattle.wy_operands.proofs.operands.Operands.drop_last.Goals as goal

pub returns : goal.returns
unfolding values_of
returns c =
    ap (λ xs. carried (reverse xs) c.truncate.new.self.items) c.forget_last.ensures ∙ ap (carried _) c.truncate.ensures.items ∙ c.beginning_of_last-from.ensures.rest
