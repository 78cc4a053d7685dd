use Rattle.std.proofs.Common.{map}
use Rattle.wy_members.specs.Names.{unit_of}
use Rattle.wy_syntax.specs.Syntax.{Parameter}
use Rattle.wy_syntax.specs.View.{parameter_of}
use Rattle.wy_members.specs.Within.{UnknownType}
use Rattle.wy_members.specs.Least.{IsLeast}
use Rattle.wy_members.proofs.Leasts.{Before}
use Rattle.wy_members.proofs.broken.unknown.least_in_parameters.Given as goal

abbrev pub invariant-loop-param : goal.invariant-loop-param
invariant-loop-param l = IsLeast (Before (map parameter_of l.params) (λ i (p : Parameter). UnknownType (unit_of l.names) p.ty) l.param-index) l.least
