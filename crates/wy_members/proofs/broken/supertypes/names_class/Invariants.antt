use Rattle.std.proofs.Common.{◌≡◌, ℕ, ◌<◌, Some, map, slice_get}
use Rattle.wy_syntax.specs.Syntax.{Named}
use Rattle.wy_syntax.specs.View.{named_of}
use Rattle.wy_overloads.specs.LineageView.{lineage_of}
use Rattle.wy_members.specs.Names.{unit_of}
use Rattle.wy_members.specs.Within.{NamesClass}
use Rattle.wy_members.proofs.broken.supertypes.names_class.Given as goal

abbrev pub invariant-loop-name : goal.invariant-loop-name
invariant-loop-name l = (k : ℕ) (name : Named) → k < l.name-index → slice_get (map named_of l.written) k ≡ Some name → NamesClass (unit_of l.names) (lineage_of l.lineage).classes name → ⊥
