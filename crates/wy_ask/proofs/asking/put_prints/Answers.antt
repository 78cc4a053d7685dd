use Rattle.std.proofs.Common.{arith}
use Rattle.wy_ask.proofs.Placing.{push_printed}
use Rattle.wy_ask.proofs.asking.put_prints.Goals as goal

pub loop-event-preserved : goal.loop-event-preserved
loop-event-preserved c =
    let v = c.loop-event.invariant in
    record {
      piece = omega (arith, v.piece);
      listed = push_printed c.args.listed.now.items c.loop-event.listed.items c.push.new.self.items c.args.prints.now c.loop-event.event-index c.loop-event.piece 0 c.loop-event-test.true v.piece v.listed c.in_ok-push.ensures.items;
    }
