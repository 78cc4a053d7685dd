use Rattle.std.proofs.Common.{◌≡◌, length, map}
use Rattle.std.specs.List.{list_all}
use Rattle.wy_syntax.specs.Syntax.{Parameter}
use Rattle.wy_syntax.specs.View.{parameter_of}
use Rattle.wy_members.specs.Known.{is_known_type}
use Rattle.wy_members.specs.Names.{unit_of}
use Rattle.wy_members.proofs.broken.known.are_known.Given as goal

abbrev pub invariant-loop-left : goal.invariant-loop-left
invariant-loop-left l =
    list_all (λ (p : Parameter). is_known_type (unit_of l.names) p.ty) (map parameter_of l.left)
    ≡ list_all (λ (p : Parameter). is_known_type (unit_of l.names) p.ty) (map parameter_of l.initial.left)

abbrev pub decreases-loop-left : goal.decreases-loop-left
decreases-loop-left l = length l.left
