use Rattle.std.proofs.Common.{◌≡◌, ◌++◌, take}
use Rattle.std.specs.List.{flat_map}
use Rattle.wy_scope.proofs.Regions.{of_clause, of_each}
use Rattle.wy_scope.proofs.region.+regions.Given as goal

abbrev pub invariant-put_each-loop-s : goal.invariant-put_each-loop-s
invariant-put_each-loop-s l = l.out.items ≡ l.fn.out.items ++ flat_map (of_each l.region) (take l.s-index l.parts)

abbrev pub invariant-put_clauses-loop-clause : goal.invariant-put_clauses-loop-clause
invariant-put_clauses-loop-clause l = l.out.items ≡ l.fn.out.items ++ flat_map of_clause (take l.clause-index l.clauses)
