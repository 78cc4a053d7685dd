use Rattle.std.proofs.Common.{◌≡◌, ◌++◌, take}
use Rattle.std.specs.List.{flat_map}
use Rattle.wy_static.proofs.Rules.{of_catch}
use Rattle.wy_static.proofs.rule.put_to_catches.Given as goal

abbrev pub invariant-loop-clause : goal.invariant-loop-clause
invariant-loop-clause l = l.out.items ≡ l.fn.out.items ++ flat_map (of_catch l.owner) (take l.clause-index l.clauses)
