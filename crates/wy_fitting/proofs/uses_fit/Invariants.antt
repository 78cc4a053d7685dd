use Rattle.std.proofs.Common.{ℕ, ◌<◌, slice_index_or}
use Rattle.wy_event.specs.declared.record.Use.{Use}
use Rattle.wy_fitting.specs.Fits.{UseFits}
use Rattle.wy_fitting.proofs.uses_fit.Given as goal

-- those so far fit
abbrev pub invariant-loop-used : goal.invariant-loop-used
invariant-loop-used l = (k : ℕ) (d : Use) → k < l.used-index → UseFits (slice_index_or l.fn.uses k d)
