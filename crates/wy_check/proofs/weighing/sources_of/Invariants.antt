use Rattle.std.proofs.Common.{◌≡◌, List, map, take}
use Rattle.wy_kernel.specs.Parts.{program_of}
use Rattle.wy_event.specs.Record.{Recorded}
use Rattle.wy_event.specs.Sources.{use_sources}
use Rattle.wy_why.specs.Sources.{source_of}
use Rattle.wy_check.specs.Asking.{AreAsked}
use Rattle.wy_check.specs.History.{HasSeen}
use Rattle.wy_check.specs.Writes.{owners}
use Rattle.wy_check.proofs.weighing.sources_of.Given as goal

abbrev pub invariant-loop-used : goal.invariant-loop-used
invariant-loop-used l = (rs : List Recorded) → HasSeen l.history rs → AreAsked l.history l.uses → map source_of l.found.items ≡ use_sources (owners (program_of l.program)) rs (take l.used-index l.uses)
