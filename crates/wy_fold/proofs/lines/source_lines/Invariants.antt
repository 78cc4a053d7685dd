-- the lines so far, and what is read of the next
use Rattle.std.proofs.Common.{◌≡◌, ◌≤◌, ◌++◌, List, ℕ, drop, map}
use Rattle.std.specs.Borrow.{Bor}
use Rattle.wy_fold.specs.SourceLines.{lines_on, source_lines}
use Rattle.wy_fold.proofs.SourceWalk.{part}
use Rattle.wy_fold.proofs.lines.source_lines.Given as goal

abbrev pub invariant-loop-i : goal.invariant-loop-i
invariant-loop-i l = record {
  begun : l.start ≤ l.i;
  lines : map {A = Bor (List ℕ)} {B = List ℕ} (λ x. x.now) l.lines.items ++ lines_on l.last (part l.source l.start l.i) (drop l.i l.source) ≡ source_lines l.source;
}
