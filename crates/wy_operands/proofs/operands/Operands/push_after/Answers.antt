use Rattle.std.proofs.Common.{◌∙◌, ap, [], ◌∷◌, ◌++◌, arith}
use Rattle.std.proofs.lemmas.List.{append_assoc}
use Rattle.wy_operands.specs.Layout.{values_of}
use Rattle.wy_operands.specs.Values.{top}
use Rattle.wy_operands.proofs.Puts.{put_on, part_after}
use Rattle.wy_operands.proofs.operands.Operands.push_after.Goals as goal

pub returns : goal.returns
returns c =
    put_on c.args.self.now _ c.args.value c.len-from.result ((top (values_of c.args.self.now)).uses ++ c.args.used ∷ []) (omega arith) (c.in_ok-push-2.ensures {u = tt}).items
    ((c.in_ok-push.ensures {u = tt}).items
    ∙ ap (λ us. us ++ c.args.used ∷ []) (c.in_ok-extend_from_within.ensures.items ∙ ap (λ us. c.args.self.now.uses.items ++ us) (part_after c.args.self.now.uses.items c.beginning_of_last-begin.result c.args.self.now.uses.len (omega arith) (omega arith) ∙ c.beginning_of_last-begin.ensures.uses))
    ∙ append_assoc c.args.self.now.uses.items (top (values_of c.args.self.now)).uses (c.args.used ∷ []))
