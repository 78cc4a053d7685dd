use Rattle.std.proofs.Common.{◌≡◌, List, map, take}
use Rattle.wy_kernel.specs.Program.{Program}
use Rattle.wy_event.specs.Record.{Recorded}
use Rattle.wy_index.specs.Index.{IsIndexOf}
use Rattle.wy_static.specs.LookUps.{AreLinksOf}
use Rattle.wy_whynot.specs.Evidence.{evidence, evidence_in}
use Rattle.wy_whynot.proofs.answer.items.Given as goal

abbrev pub invariant-loop-link : goal.invariant-loop-link
invariant-loop-link l = (p : Program) (rs : List Recorded) → AreLinksOf l.links p → IsIndexOf l.index rs
    → map evidence_in l.items.items ≡ map (evidence p rs l.coverage) (take l.link-index l.blocked)
