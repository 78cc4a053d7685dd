use Rattle.std.proofs.Common.{ap, arith}
use Rattle.wy_syntax.specs.Names.{widths}
use Rattle.wy_syntax.proofs.Shapes.{one_is, two_before}
use Rattle.wy_syntax.proofs.Heads.{list_go, list_none, list_last, row_ends}
use Rattle.wy_syntax.proofs.lower.variable.declarator_list.Goals as goal

pub loop-left-preserved : goal.loop-left-preserved
loop-left-preserved c =
    let shape = two_before c.loop-left.left.now _ _ c.in-len2-up.len_at_least c.part-item.is c.comma-item.is in
    record {
      row = list_go _ _ _ _ _ _ _ _ _ _ _ c.in_ok-push.ensures.items shape c.width.ensures c.width-in-len2-up.ensures c.in_ok-declarator.ensures c.loop-left.invariant.row;
      within = omega (arith, ap widths shape);
    }

pub returns-in_default-left : goal.returns-in_default-left
returns-in_default-left c = row_ends _ _ _ (list_none _ c.loop-left.left.now c.in_default-left.len_below) c.loop-left.invariant.row

pub returns : goal.returns
returns c =
    let last = one_is c.loop-left.left.now _ c.in-len1-up.len_at_least c.in_default.len_below c.part-item-2.is in
    list_last _ _ _ _ _ _ _ c.in_ok-push-2.ensures.items last c.in_ok-declarator-2.ensures c.loop-left.invariant.row
