use Rattle.std.proofs.Common.{◌≡◌, ◌++◌, take}
use Rattle.std.specs.List.{flat_map}
use Rattle.wy_static.proofs.Stands.{of_clause}
use Rattle.wy_static.proofs.standing.put_catches.Given as goal

abbrev pub invariant-loop-clause : goal.invariant-loop-clause
invariant-loop-clause l = l.out.items ≡ l.fn.out.items ++ flat_map (of_clause l.method) (take l.clause-index l.clauses)
