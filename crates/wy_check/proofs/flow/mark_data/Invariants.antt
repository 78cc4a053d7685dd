use Rattle.std.proofs.Common.{◌≡◌, ◌<◌, ◌||◌, ℕ, length, take}
use Rattle.wy_check.specs.Data.{has_data}
use Rattle.wy_check.specs.Marks.{mark_of}
use Rattle.wy_check.proofs.flow.mark_data.Given as goal

abbrev pub invariant-loop-source : goal.invariant-loop-source
invariant-loop-source l = (j : ℕ) → j < length l.initial.marks → mark_of l.marks j ≡ (mark_of l.initial.marks j || has_data (take l.source-index l.sources) j)
