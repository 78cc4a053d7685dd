use Rattle.std.proofs.Common.{◌∙◌, ap, sym, arith}
use Rattle.std.specs.Prelude.{not}
use Rattle.std.proofs.lemmas.List.Filters.{FiltersInPlace-more_no, FiltersInPlace-more_set}
use Rattle.wy_calls.proofs.entry.end.Goals as goal
use Rattle.wy_calls.proofs.entry.end.Goals.{then-not-ends_with, else-not-ends_with}

pub loop-at-preserved : goal.loop-at-preserved
loop-at-preserved c = elim c.if-not-ends_with.branch [
  | then-not-ends_with w ↦ rw (w.entries-is, w.kept-is) (FiltersInPlace-more_set c.loop-at.invariant (omega arith) (ap not (sym c.ends_with.ensures ∙ w.if-not-ends_with.true)) c.index-entry.ensures)
  | else-not-ends_with w ↦ rw (w.entries-is, w.kept-is) (FiltersInPlace-more_no c.loop-at.invariant (omega arith) (ap not (sym c.ends_with.ensures ∙ w.if-not-ends_with.false)) c.index-entry.ensures)
]
