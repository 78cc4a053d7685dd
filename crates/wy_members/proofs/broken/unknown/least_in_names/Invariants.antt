use Rattle.std.proofs.Common.{map}
use Rattle.wy_members.specs.Names.{unit_of}
use Rattle.wy_syntax.specs.View.{named_of}
use Rattle.wy_members.specs.Within.{UnknownNamed}
use Rattle.wy_members.specs.Least.{IsLeast}
use Rattle.wy_members.proofs.Leasts.{Before}
use Rattle.wy_members.proofs.broken.unknown.least_in_names.Given as goal

abbrev pub invariant-loop-name : goal.invariant-loop-name
invariant-loop-name l = IsLeast (Before (map named_of l.written) (λ i name. UnknownNamed (unit_of l.names) name) l.name-index) l.least
