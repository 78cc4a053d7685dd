use Rattle.std.proofs.Common.{◌≡◌, ◌++◌, map, take}
use Rattle.wy_telling.proofs.Clauses.{kept}
use Rattle.wy_telling.proofs.caught.put_clauses.Given as goal

abbrev pub invariant-loop-catch : goal.invariant-loop-catch
invariant-loop-catch l = l.out.items ≡ l.fn.out.items ++ map kept (take l.catch-index l.catches)
