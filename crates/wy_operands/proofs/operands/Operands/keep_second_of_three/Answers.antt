use Rattle.std.proofs.Common.{◌∙◌, ap, [], ◌∷◌, ◌++◌, refl}
use Rattle.wy_operands.proofs.Puts.{part_is, put_second}
use Rattle.wy_operands.proofs.operands.Operands.keep_second_of_three.Goals as goal

pub keep_part-requires-clause-first : goal.keep_part-requires-clause-first
keep_part-requires-clause-first c = (part_is c.args.self.now 2 3 _ _ refl c.beginning_of_last-from.ensures c.beginning_of_last-second.ensures).in_order

pub keep_part-requires-clause-second : goal.keep_part-requires-clause-second
keep_part-requires-clause-second c = (part_is c.args.self.now 1 2 _ _ refl c.beginning_of_last-second.ensures c.beginning_of_last-third.ensures).in_order

pub returns : goal.returns
returns c =
    put_second c.args.self.now _ _ _ _ c.value_at-value.result c.beginning_of_last-from.ensures c.beginning_of_last-second.ensures c.beginning_of_last-third.ensures c.value_at-value.ensures
    ((c.in_ok-push.ensures {u = tt}).items ∙ ap (λ xs. xs ++ record { value = c.value_at-value.result; from = c.beginning_of_last-from.result } ∷ []) c.forget_last.ensures)
    c.keep_part.ensures
