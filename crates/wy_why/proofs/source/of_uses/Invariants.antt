use Rattle.std.proofs.Common.{◌≡◌, ◌≤◌, List, map, take}
use Rattle.wy_event.specs.Record.{Recorded}
use Rattle.wy_event.specs.Sources.{use_sources}
use Rattle.wy_index.specs.Index.{IsIndexOf, owners_of}
use Rattle.wy_why.specs.Sources.{source_of}
use Rattle.wy_why.proofs.source.of_uses.Given as goal

abbrev pub invariant-loop-used : goal.invariant-loop-used
invariant-loop-used g l = record {
  sources : (rs : List Recorded) → IsIndexOf l.index rs → map source_of l.found.items ≡ use_sources (owners_of l.index) rs (take l.used-index l.uses);
  forward : l.initial.steps ≤ l.steps;
}
