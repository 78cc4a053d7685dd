use Rattle.std.proofs.Common.{◌≡◌, ◌++◌, take}
use Rattle.std.specs.List.{flat_map}
use Rattle.wy_kernel.specs.Substatements.{statement_seen}
use Rattle.wy_static.specs.Seen.{seen_by}
use Rattle.wy_static.specs.Ways.{statement_ways}
use Rattle.wy_static.proofs.rule.put_statements.Given as goal

abbrev pub invariant-loop-s : goal.invariant-loop-s
invariant-loop-s l = l.out.items ≡ l.fn.out.items ++ flat_map (λ x. statement_ways (seen_by l.dispatcher) (statement_seen x)) (take l.s-index l.statements)
