-- The end of a run as it is kept in memory: a number that is NONE there is absent.
use Rattle.std.specs.Prelude.{map}
use Rattle.wy_event.specs.declared.record.Cover.{Cover}
use Rattle.wy_event.specs.declared.record.Tail.{Tail as Kept}
use Rattle.wy_event.specs.declared.record.Thrown.{Thrown as KeptThrown}
use Rattle.wy_kernel.specs.View.{present}
use Rattle.wy_steps.specs.State.{Covered}
use Rattle.wy_meaning.specs.Run.{Tail, Thrown}

-- the cause of a statement that nothing left, and of one that a stop found going on, is the number that stands for it
unfoldable pub covered_of : Cover → Covered
covered_of c = record { begins = c.begins; ends = c.ends; first = present c.first; cause = c.cause }

unfoldable pub kept_tail : Kept → Tail
kept_tail t = record {
  coverage = map covered_of t.coverage.statements;
  stop = t.stop;
  last = present t.last;
  steps = t.steps;
  events = t.events;
  uses = t.uses;
  output = t.output;
}

unfoldable pub kept_thrown : KeptThrown → Thrown
kept_thrown t = record { class = present t.class; site = present t.site }
