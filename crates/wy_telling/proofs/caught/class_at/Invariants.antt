use Rattle.std.proofs.Common.{◌≡◌, drop}
use Rattle.wy_telling.specs.Caught.{class_at}
use Rattle.wy_telling.proofs.caught.class_at.Given as goal

abbrev pub invariant-loop-clause : goal.invariant-loop-clause
invariant-loop-clause l = class_at l.clauses l.site ≡ class_at (drop l.clause-index l.clauses) l.site
