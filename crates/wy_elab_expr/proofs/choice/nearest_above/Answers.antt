use Rattle.std.proofs.Common.{◌∙◌}
use Rattle.wy_table.specs.ClassTable.{table_of}
use Rattle.wy_elab_expr.proofs.Nearest.{near_here, near_further, near_none, near_end}
use Rattle.wy_elab_expr.proofs.choice.nearest_above.Goals as goal

pub returns-then-is_below : goal.returns-then-is_below
returns-then-is_below c = λ j h.
    c.class-then-is_below.ensures ∙ near_here c.upward.left j (table_of c.args.table.now) c.upward.at c.args.other _ c.upward-test.true (rw c.class.ensures at (c.if-is_below.ensures j h)) (c.upward.invariant j h)

pub returns-in-None : goal.returns-in-None
returns-in-None c = λ j h.
    near_none c.upward.left j (table_of c.args.table.now) c.upward.at c.args.other _ c.upward-test.true (rw c.class.ensures at (c.if-is_below.ensures j h)) c.in-None.ensures (c.upward.invariant j h)

pub upward-preserved : goal.upward-preserved
upward-preserved c = λ j h.
    near_further c.upward.left j (table_of c.args.table.now) c.upward.at c.in-Some.above c.args.other _ c.upward-test.true (rw c.class.ensures at (c.if-is_below.ensures j h)) c.in-Some.ensures (c.upward.invariant j h)

pub returns : goal.returns
returns c = λ j h. near_end c.upward.left j (table_of c.args.table.now) _ c.args.other _ c.upward-test.false (c.upward.invariant j h)
