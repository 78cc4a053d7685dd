use Rattle.std.proofs.Common.{◌≡◌, ◌<◌, ◌||◌, ℕ, length, take}
use Rattle.std.specs.Prelude.{nat_eq}
use Rattle.std.specs.List.{list_any}
use Rattle.wy_why.specs.declared.source.Source.{Source}
use Rattle.wy_check.specs.Marks.{mark_of}
use Rattle.wy_check.proofs.marks.mark_sources.Given as goal

abbrev pub invariant-loop-source : goal.invariant-loop-source
invariant-loop-source l = (j : ℕ) → j < length l.initial.marks → mark_of l.marks j ≡ (mark_of l.initial.marks j || list_any (λ (x : Source). nat_eq j x.event) (take l.source-index l.sources))
