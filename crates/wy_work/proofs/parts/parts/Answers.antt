use Rattle.std.proofs.Common.{arith, ◌-◌}
use Rattle.wy_operands.specs.Layout.{values_of}
use Rattle.wy_operands.specs.Values.{last_many}
use Rattle.wy_work.proofs.Lasts.{grows}
use Rattle.wy_work.proofs.parts.parts.Goals as goal

pub loop-left-preserved : goal.loop-left-preserved
loop-left-preserved c = grows c.loop-left.row.items c.push.new.self.items (record { value = c.value_at.result; uses = c.uses_at.result }) c.loop-left.left (c.loop-left.left - 1) (values_of c.args.stack.now) (last_many c.args.count (values_of c.args.stack.now)) (omega arith) c.in_ok-push.ensures.items c.value_at.ensures c.uses_at.ensures c.loop-left.invariant
