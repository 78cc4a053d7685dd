use Rattle.std.proofs.Common.{◌∙◌, ap, sym, [], ◌∷◌, ◌++◌}
use Rattle.std.proofs.lemmas.List.{append-nil}
use Rattle.wy_operands.specs.Layout.{values_of}
use Rattle.wy_operands.specs.Values.{given, under_many, uses_of_last}
use Rattle.wy_operands.proofs.Puts.{put_over}
use Rattle.wy_operands.proofs.operands.Operands.join.Goals as goal

pub returns : goal.returns
returns c =
    put_over c.args.self.now _ c.args.many c.beginning_of_last-from.result c.args.value [] c.beginning_of_last-from.ensures
    ((c.in_ok-push.ensures {u = tt}).items ∙ ap (λ xs. xs ++ record { value = c.args.value; from = c.beginning_of_last-from.result } ∷ []) c.forget_last.ensures) (sym (append-nil _))
    ∙ ap (λ us. given c.args.value us ∷ under_many c.args.many (values_of c.args.self.now)) (append-nil (uses_of_last c.args.many (values_of c.args.self.now)))
