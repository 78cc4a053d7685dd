-- the mark that the uses so far give
use Rattle.std.proofs.Common.{◌≡◌, ◌≤◌, Bool, List, take}
use Rattle.wy_event.specs.Record.{Recorded}
use Rattle.wy_event.specs.Sources.{use_sources}
use Rattle.wy_index.specs.Finds.{IsRecent}
use Rattle.wy_index.specs.Index.{IsIndexOf, owners_of}
use Rattle.wy_why.specs.Marks.{is_marked}
use Rattle.wy_affects.specs.Given.{is_given}
use Rattle.wy_affects.proofs.given.given_by_uses.Given as goal

abbrev pub invariant-loop-used : goal.invariant-loop-used
invariant-loop-used g l = record {
  recent : IsRecent l.index.postings l.recent;
  mark : (rs : List Recorded) → IsIndexOf l.index rs → (all : Bool) → is_marked all l.mark ≡ is_given all l.marks (use_sources (owners_of l.index) rs (take l.used-index l.uses));
  forward : l.initial.steps ≤ l.steps;
}
