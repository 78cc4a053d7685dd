use Rattle.std.proofs.Common.{◌<◌, ◌∙◌, length}
use Rattle.wy_ask.proofs.Placing.{counted, next_placed}
use Rattle.wy_ask.proofs.never.with_places.Goals as goal

pub loop-statement-preserved : goal.loop-statement-preserved
loop-statement-preserved c =
    let xs = c.args.statements.now in
    let i = c.loop-statement.statement-index in
    let lt : i < length xs = c.loop-statement-test.true in
    let v = c.loop-statement.invariant in
    record {
      counts = counted c.loop-statement.counts c.next_place.new.counts xs i _ lt v.counts c.in_ok-place.ensures.counts;
      places = c.in_ok-push.ensures.items ∙ next_placed c.loop-statement.counts xs i _ c.loop-statement.all.items c.in_ok-place.place lt v.counts c.in_ok-place.ensures.place v.places;
    }
