use Rattle.std.proofs.Common.{◌≡◌, ◌++◌, length, map}
use Rattle.wy_kernel.specs.View.{method_of}
use Rattle.wy_syntax.specs.View.{declaration_of}
use Rattle.wy_members.specs.Broken.{with_known_members}
use Rattle.wy_members.specs.Declarations.{class_by_class_from, methods_of}
use Rattle.wy_members.specs.Names.{unit_of}
use Rattle.wy_members.proofs.broken.known.add_known_methods.Given as goal

abbrev pub invariant-loop-left : goal.invariant-loop-left
invariant-loop-left l =
    map method_of l.rows.items ++ class_by_class_from (methods_of (unit_of l.names)) l.number (map (with_known_members (unit_of l.names)) (map declaration_of l.left))
    ≡ map method_of l.initial.rows.items ++ class_by_class_from (methods_of (unit_of l.names)) l.initial.number (map (with_known_members (unit_of l.names)) (map declaration_of l.initial.left))

abbrev pub decreases-loop-left : goal.decreases-loop-left
decreases-loop-left l = length l.left
