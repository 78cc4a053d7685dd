use Rattle.std.proofs.Common.{◌∙◌, ap, drop}
use Rattle.std.proofs.lemmas.List.{take_rest}
use Rattle.wy_operands.specs.Layout.{values_of}
use Rattle.wy_operands.proofs.Places.{uses_joined}
use Rattle.wy_operands.proofs.operands.Operands.last_uses.Goals as goal

pub returns : goal.returns
returns c =
    let last = take_rest c.deref.result.now c.beginning_of_last-from.result ∙ ap (drop c.beginning_of_last-from.result) c.deref.ensures.value ∙ c.beginning_of_last-from.ensures.uses in
    record { last = last; joined = last ∙ uses_joined c.args.many (values_of c.args.self.now) }
