use Rattle.std.proofs.Common.{◌≡◌, ℕ, List, length, map, take}
use Rattle.wy_kernel.specs.Program.{Program}
use Rattle.wy_event.specs.Record.{Recorded}
use Rattle.wy_index.specs.Index.{IsIndexOf}
use Rattle.wy_static.specs.LookUps.{AreLinksOf}
use Rattle.wy_scope.specs.Evidence.{evidence, evidence_in}
use Rattle.wy_scope.specs.Kept.{IsScopeTo}
use Rattle.wy_scope.proofs.answer.items.Given as goal

abbrev pub invariant-loop-link : goal.invariant-loop-link
invariant-loop-link l = (p : Program) (rs : List Recorded) (call : ℕ) → AreLinksOf l.links p → IsIndexOf l.index rs → IsScopeTo rs call (length rs) l.scope
    → map evidence_in l.items.items ≡ map (evidence p rs call) (take l.link-index l.blocked)
