use Rattle.std.proofs.Common.{◌≡◌, take, false}
use Rattle.wy_table.specs.Spans.{is_covered}
use Rattle.wy_table.proofs.spans.is_covered.Given as goal

abbrev pub invariant-loop-span : goal.invariant-loop-span
invariant-loop-span l = is_covered l.n (take l.span-index l.row) ≡ false
