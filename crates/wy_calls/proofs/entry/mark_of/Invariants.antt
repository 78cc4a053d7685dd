use Rattle.std.proofs.Common.{◌≡◌, length, reverse}
use Rattle.wy_calls.specs.Layout.{mark_in, Rises}
use Rattle.wy_calls.proofs.entry.mark_of.Given as goal

abbrev pub invariant-loop-innermost : goal.invariant-loop-innermost
invariant-loop-innermost l = record {
  same : mark_in (reverse l.begun) l.fn.frame l.fn.statement ≡ mark_in (reverse l.fn.begun) l.fn.frame l.fn.statement;
  rises : Rises (reverse l.begun);
}

abbrev pub decreases-loop-innermost : goal.decreases-loop-innermost
decreases-loop-innermost l = length l.begun
