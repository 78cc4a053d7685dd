use Rattle.std.proofs.Common.{◌≡◌, length, take}
use Rattle.wy_constant.specs.Scopes.{variables_of}
use Rattle.wy_constant.proofs.variables.Variables.truncate.Given as goal

abbrev pub invariant-loop-self : goal.invariant-loop-self
invariant-loop-self l = take l.many (variables_of l.self) ≡ take l.many (variables_of l.initial.self)

abbrev pub decreases-loop-self : goal.decreases-loop-self
decreases-loop-self l = length (variables_of l.self)
