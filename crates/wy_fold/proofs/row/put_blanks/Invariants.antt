use Rattle.std.proofs.Common.{◌≡◌, ◌++◌}
use Rattle.wy_fold.specs.Rows.{blanks}
use Rattle.wy_fold.proofs.row.put_blanks.Given as goal

abbrev pub invariant-loop : goal.invariant-loop
invariant-loop l = l.out.items ≡ l.initial.out.items ++ blanks l.counter
