use Rattle.std.specs.Prelude.{◌≡◌, ◌≤◌, List, drop, map}
use Rattle.wy_event.specs.Record.{Recorded}
use Rattle.wy_index.specs.Index.{IsIndexOf}
use Rattle.wy_kernel.specs.View.{local_of}
use Rattle.wy_watch.specs.Sight.{sight_seen}
use Rattle.wy_watch.specs.Names.{last_named, later}
use Rattle.wy_watch.proofs.names.last_named.Given as goal

abbrev pub invariant-loop-index : goal.invariant-loop-index
invariant-loop-index g l = record {
  last : (rs : List Recorded) → IsIndexOf l.sight.index.now rs
      → last_named (sight_seen rs l.sight) l.at.frame l.name 0 (map local_of l.at.locals.now)
      ≡ later l.found (last_named (sight_seen rs l.sight) l.at.frame l.name l.index (drop l.index (map local_of l.at.locals.now)));
  forward : l.fn.steps ≤ l.steps;
}
