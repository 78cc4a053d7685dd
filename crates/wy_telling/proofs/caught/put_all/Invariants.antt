use Rattle.std.proofs.Common.{◌≡◌, ◌++◌, take}
use Rattle.std.specs.List.{flat_map}
use Rattle.wy_telling.specs.Caught.{clauses_in}
use Rattle.wy_kernel.specs.Substatements.{statements_seen}
use Rattle.wy_telling.proofs.caught.put_all.Given as goal

abbrev pub invariant-loop-s : goal.invariant-loop-s
invariant-loop-s l = l.out.items ≡ l.fn.out.items ++ flat_map clauses_in (statements_seen (take l.s-index l.all))
