use Rattle.std.proofs.Common.{◌≡◌, [], replicate}
use Rattle.wy_fold.specs.Groups.{lists_of}
use Rattle.wy_fold.proofs.table.empty_rows.Given as goal

abbrev pub invariant-loop : goal.invariant-loop
invariant-loop l = lists_of l.rows.items ≡ replicate l.counter []
