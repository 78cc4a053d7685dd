use Rattle.std.proofs.Common.{map}
use Rattle.wy_syntax.proofs.Shapes.{carried, one_before}
use Rattle.wy_syntax.specs.View.{effect_of}
use Rattle.wy_syntax.proofs.Heads.{effects_none, effects_closed, effects_are}
use Rattle.wy_syntax.proofs.lower.head.effects.Goals as goal

pub returns-in_default : goal.returns-in_default
returns-in_default c = effects_none _ c.args.parts.now _ c.new-found.ensures.items c.in_default.len_below

pub returns-then-is_leaf : goal.returns-then-is_leaf
returns-then-is_leaf c =
    let shape = one_before c.args.parts.now _ c.in-len1-up.len_at_least c.value-item.is in
    effects_closed _ _ _ _ _ c.new-found.ensures.items shape (cc)

pub returns : goal.returns
returns c =
    let shape = one_before c.args.parts.now _ c.in-len1-up.len_at_least c.value-item.is in
    carried _ (λ found. map effect_of found.items) _ _ (effects_are _ _ _ _ _ _ _ _ c.new-found.ensures.items c.in_ok-push.ensures.items shape (cc) c.width.ensures c.in_ok-effect.ensures) c.effects_behind.ensures
