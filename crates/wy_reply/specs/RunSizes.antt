-- How large the run of a program is.
use Rattle.std.specs.Prelude.{ℕ, ◌-◌, List, [], length, slice_get, Option, Some}
use Rattle.std.specs.Prelude.{None as Absent}
use Rattle.wy_kernel.specs.Program.{Program}
use Rattle.wy_event.specs.Numbers.{Numbers}
use Rattle.wy_event.specs.Record.{Recorded}
use Rattle.wy_event.specs.Sources.{closure, data_closure}
use Rattle.wy_steps.specs.Sets.{nothing}
use Rattle.wy_meaning.specs.Run.{events, tail}
use Rattle.wy_index.specs.Found.{prints_in}
use Rattle.wy_why.specs.Answer.{up_to}
use Rattle.wy_ask.specs.Asked.{owners}
use Rattle.wy_reply.specs.declared.sizes.size.Sizes.{Sizes}

abbrev pub last_of : List ℕ → Option ℕ
last_of events = slice_get events (length events - 1)

-- how many events an event comes from, of these; none where there is no event
abbrev pub size_of : (ℕ → Numbers) → Option ℕ → ℕ
size_of come_from Absent = 0
size_of come_from (Some event) = length (up_to event (come_from event))

-- of how many events the answer to the last print is, in all and by data
unfoldable pub answer_size : Program → List Recorded → ℕ
answer_size p rs = size_of (closure (owners p) rs) (last_of (prints_in rs))

unfoldable pub data_size : Program → List Recorded → ℕ
data_size p rs = size_of (data_closure (owners p) rs) (last_of (prints_in rs))

-- those of the run without input, in at most so many steps
unfoldable pub sizes_of : Program → ℕ → Sizes
sizes_of p steps = record {
  events = (tail nothing p [] steps).events;
  answer = answer_size p (events nothing p [] steps);
  «data» = data_size p (events nothing p [] steps);
}
