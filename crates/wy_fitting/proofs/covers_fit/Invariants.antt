use Rattle.std.proofs.Common.{ℕ, ◌<◌, slice_index_or}
use Rattle.wy_event.specs.declared.record.Cover.{Cover}
use Rattle.wy_fitting.specs.Fits.{CoverFits}
use Rattle.wy_fitting.proofs.covers_fit.Given as goal

-- those so far fit
abbrev pub invariant-loop-cover : goal.invariant-loop-cover
invariant-loop-cover l = (k : ℕ) (d : Cover) → k < l.cover-index → CoverFits (slice_index_or l.fn.covers k d)
