use Rattle.std.proofs.Common.{arith, length, ◌≤◌}
use Rattle.std.proofs.lemmas.List.Elements.{AllWithin-more, AllWithin-upto, All-from_all_within, All-map, at_read}
use Rattle.wy_event.specs.declared.record.Event.{Event}
use Rattle.wy_event.specs.Record.{recorded}
use Rattle.wy_fitting.specs.Fits.{Fits}
use Rattle.wy_fitting.proofs.events_fit.Goals as goal

pub loop-event-preserved : goal.loop-event-preserved
loop-event-preserved c =
    let events = c.args.events.now in
    let i = c.loop-event.event-index in
    AllWithin-more (λ (e : Event). Fits (recorded e)) events 0 i c.loop-event.invariant (at_read events (λ (e : Event). Fits (recorded e)) i c.event-item.result c.loop-event-test.true c.event-item.is c.event_fits.ensures)

pub returns : goal.returns
returns c =
    let events = c.args.events.now in
    let far : length events ≤ c.loop-event.event-index = omega arith in
    All-map Fits recorded events (All-from_all_within (λ (e : Event). Fits (recorded e)) events (AllWithin-upto (λ (e : Event). Fits (recorded e)) events 0 c.loop-event.event-index (length events) far c.loop-event.invariant))
