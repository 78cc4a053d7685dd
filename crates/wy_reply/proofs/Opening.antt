-- A trace in memory that is opened is the trace that was handed over.
use Rattle.std.proofs.Common.{◌≡◌, ◌∙◌, List, map, ap}
use Rattle.std.specs.Prelude.{None}
use Rattle.std.proofs.lemmas.Option.{same_Some}
use Rattle.wy_event.specs.declared.record.Cover.{Cover}
use Rattle.wy_event.specs.declared.record.Event.{Event}
use Rattle.wy_event.specs.declared.record.Trace.{Trace}
use Rattle.wy_event.specs.Record.{recorded}
use Rattle.wy_view.specs.View.{Keeps}
use Rattle.wy_view.specs.Whole.{whole}
use Rattle.wy_view.specs.declared.memory.MemoryView.{MemoryView}
use Rattle.wy_ask.specs.declared.opened.Opened.{Opened}
use Rattle.wy_reply.specs.Opening.{IsOpenedTrace}
use Rattle.wy_reply.specs.Tellings.{covers_of}

pub opened_trace : (t : Trace) (o : Opened MemoryView) (events : List Event) (covers : List Cover) → events ≡ t.events → covers ≡ covers_of t
    → Keeps (whole events None) (whole o.view.events.items None) → o.coverage.now ≡ covers → IsOpenedTrace t o
opened_trace t o events covers same covered keeps held = record {
  events = same_Some (map recorded o.view.events.items) (map recorded events) keeps.records ∙ ap (map recorded) same;
  covers = held ∙ covered;
}
