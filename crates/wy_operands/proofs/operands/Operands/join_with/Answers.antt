use Rattle.std.proofs.Common.{◌∙◌, ap, [], ◌∷◌, ◌++◌}
use Rattle.wy_operands.proofs.Puts.{put_over}
use Rattle.wy_operands.proofs.operands.Operands.join_with.Goals as goal

pub returns : goal.returns
returns c =
    put_over c.args.self.now _ c.args.many c.beginning_of_last-from.result c.args.value (c.args.used ∷ []) c.beginning_of_last-from.ensures
    ((c.in_ok-push-2.ensures {u = tt}).items ∙ ap (λ xs. xs ++ record { value = c.args.value; from = c.beginning_of_last-from.result } ∷ []) c.forget_last.ensures)
    (c.in_ok-push.ensures {u = tt}).items
