use Rattle.std.proofs.Common.{ap, map, arith, rules}
use Rattle.wy_syntax.specs.Names.{widths}
use Rattle.wy_syntax.proofs.Shapes.{two_before}
use Rattle.wy_syntax.specs.View.{effect_of}
use Rattle.wy_syntax.proofs.Heads.{effects_go, effects_stop, effects_end, row_ends}
use Rattle.wy_syntax.proofs.lower.head.effects_behind.Goals as goal

pub returns-then-not-is_leaf : goal.returns-then-not-is_leaf
returns-then-not-is_leaf c =
    let shape = two_before c.loop-left.left.now _ _ c.in-len2-up.len_at_least c.mark-item.is c.value-item.is in
    row_ends (map effect_of c.loop-left.found.items) _ _ (effects_stop _ _ _ _ _ shape (first_of (cc, search rules))) c.loop-left.invariant.row

pub loop-left-preserved : goal.loop-left-preserved
loop-left-preserved c =
    let shape = two_before c.loop-left.left.now _ _ c.in-len2-up.len_at_least c.mark-item.is c.value-item.is in
    record {
      row = effects_go _ _ _ _ _ _ _ _ _ _ _ c.in_ok-push.ensures.items shape (first_of (cc, search rules)) c.width.ensures c.width-in-len2-up.ensures c.in_ok-effect.ensures c.loop-left.invariant.row;
      within = omega (arith, ap widths shape);
    }

pub returns : goal.returns
returns c = row_ends (map effect_of c.loop-left.found.items) _ _ (effects_end _ c.loop-left.left.now c.in_default.len_below) c.loop-left.invariant.row
