use Rattle.std.proofs.Common.{ap, arith}
use Rattle.wy_syntax.specs.Names.{widths}
use Rattle.wy_syntax.proofs.Shapes.{one_before, with_second}
use Rattle.wy_syntax.proofs.Heads.{initial_here, initial_on, initial_alone, initial_end}
use Rattle.wy_syntax.proofs.lower.variable.initial_in.Goals as goal

pub returns-in_default-behind : goal.returns-in_default-behind
returns-in_default-behind c =
    let shape = one_before c.loop-left.left.now _ c.in-len1-up.len_at_least c.mark-item.is in
    initial_alone _ _ _ _ _ shape c.in_default-behind.len_below c.loop-left.invariant.rest

pub returns-then-is_leaf : goal.returns-then-is_leaf
returns-then-is_leaf c =
    let shape = one_before c.loop-left.left.now _ c.in-len1-up.len_at_least c.mark-item.is in
    let after = one_before _ _ c.in-len1-up-behind.len_at_least c.value-item.is in
    initial_here _ _ _ _ _ _ _ _ (with_second _ _ _ _ shape after) (cc) c.width.ensures c.in_ok-initial.ensures c.loop-left.invariant.rest

pub loop-left-preserved : goal.loop-left-preserved
loop-left-preserved c =
    let shape = one_before c.loop-left.left.now _ c.in-len1-up.len_at_least c.mark-item.is in
    let after = one_before _ _ c.in-len1-up-behind.len_at_least c.value-item.is in
    record {
      rest = initial_on _ _ _ _ _ _ _ _ shape after (cc) c.width.ensures c.loop-left.invariant.rest;
      within = omega (arith, ap widths shape);
    }

pub returns : goal.returns
returns c = initial_end _ c.loop-left.left.now _ c.in_default.len_below c.loop-left.invariant.rest
