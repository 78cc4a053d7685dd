use Rattle.std.proofs.Common.{◌≡◌, ◌++◌, take}
use Rattle.std.specs.List.{flat_map}
use Rattle.wy_kernel.specs.Substatements.{statement_seen}
use Rattle.wy_static.specs.Standings.{standings_in}
use Rattle.wy_static.proofs.standing.put_all.Given as goal

abbrev pub invariant-loop-s : goal.invariant-loop-s
invariant-loop-s l = l.out.items ≡ l.fn.out.items ++ flat_map (λ x. standings_in l.method (statement_seen x)) (take l.s-index l.statements)
