use Rattle.std.specs.List.{AllWithin}
use Rattle.wy_event.specs.declared.record.Event.{Event}
use Rattle.wy_event.specs.Record.{recorded}
use Rattle.wy_fitting.specs.Fits.{Fits}
use Rattle.wy_fitting.proofs.events_fit.Given as goal

-- those so far fit
abbrev pub invariant-loop-event : goal.invariant-loop-event
invariant-loop-event l = AllWithin (λ (e : Event). Fits (recorded e)) l.fn.events 0 l.event-index
