use Rattle.std.proofs.Common.{ℕ, ◌<◌}
use Rattle.std.specs.List.{Contains}
use Rattle.wy_kernel.specs.Subtyping.{direct_supertypes}
use Rattle.wy_overloads.specs.LineageView.{lineage_of}
use Rattle.wy_members.specs.Alike.{IsMarked}
use Rattle.wy_members.proofs.broken.extended.mark_all.Given as goal

abbrev pub invariant-loop-c : goal.invariant-loop-c
invariant-loop-c l = record { object : IsMarked l.marks 0; each : (e d : ℕ) → e < l.c → Contains (direct_supertypes (lineage_of l.lineage).classes e) d → IsMarked l.marks d }
