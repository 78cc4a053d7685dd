use Rattle.std.proofs.Common.{◌≡◌, ◌<◌, ℕ, Some}
use Rattle.std.specs.Prelude.{slice_get}
use Rattle.wy_event.specs.declared.record.Event.{Event}
use Rattle.wy_event.specs.Record.{recorded}
use Rattle.wy_view.specs.References.{RefersBelow}
use Rattle.test_trace.proofs.checked.all_refer_below.Given as goal

abbrev pub invariant-loop-event : goal.invariant-loop-event
invariant-loop-event l = record {
  place : l.n ≡ l.event-index;
  all : (k : ℕ) (e : Event) → k < l.n → slice_get l.events k ≡ Some e → RefersBelow k (recorded e);
}
