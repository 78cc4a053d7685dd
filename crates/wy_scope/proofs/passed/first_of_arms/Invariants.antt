use Rattle.std.proofs.Common.{◌≡◌, drop}
use Rattle.wy_scope.specs.Kept.{first_of_arms, first_of_arms_from}
use Rattle.wy_scope.proofs.passed.first_of_arms.Given as goal

abbrev pub invariant-loop-link : goal.invariant-loop-link
invariant-loop-link l = first_of_arms_from l.first l.scope.firsts (drop l.link-index l.links) ≡ first_of_arms l.scope.firsts l.links
