use Rattle.std.proofs.Common.{◌∙◌, ap, ◌∷◌, ◌++◌, arith}
use Rattle.wy_operands.specs.Layout.{values_of}
use Rattle.wy_operands.specs.Values.{given, at}
use Rattle.wy_operands.proofs.Puts.{put_on}
use Rattle.wy_operands.proofs.operands.Operands.push_copy.Goals as goal

pub returns : goal.returns
returns c =
    put_on c.args.self.now _ c.value_at-value.result c.len-from.result (at c.args.above (values_of c.args.self.now)).uses (omega arith) (c.in_ok-push.ensures {u = tt}).items
    (c.in_ok-extend_from_within.ensures.items ∙ ap (λ us. c.args.self.now.uses.items ++ us) c.place_of_uses-begin.ensures.uses)
    ∙ ap (λ v. given v (at c.args.above (values_of c.args.self.now)).uses ∷ values_of c.args.self.now) c.value_at-value.ensures
