-- One event more was read.
use Rattle.std.proofs.Common.{List, length, length-append, sym, ap, subst, arith, ◌∷◌, []}
use Rattle.wy_event.specs.declared.record.Event.{Event}
use Rattle.wy_page.specs.Frames.{ReferFrom}
use Rattle.wy_page.proofs.Frames.{ReadSoFar, one_read, one_refers}
use Rattle.wy_page.proofs.block.read_block.Goals as goal

pub loop-n-preserved : goal.loop-n-preserved
loop-n-preserved c =
    let v = c.loop-n.invariant in
    let events = c.loop-n.events.items in
    let x = c.in_ok-event.event in
    let items = c.in_ok-push.ensures.items in
    record {
      place = omega (arith, v.place, ap length items, length-append events (x ∷ []));
      refer = subst (λ (l : List Event). ReferFrom c.args.first l) (sym items) (one_refers c.args.first c.loop-n.n events x v.place c.in_ok-event.ensures.refers v.refer);
      read = subst (λ (l : List Event). ReadSoFar c.args.version c.args.first c.args.bytes.now l c.in_ok-event.behind.now) (sym items) (one_read c.args.version c.args.first c.loop-n.n c.args.bytes.now events c.loop-n.rest.now x c.in_ok-event.behind.now v.place c.in_ok-event.ensures.read v.read);
    }
