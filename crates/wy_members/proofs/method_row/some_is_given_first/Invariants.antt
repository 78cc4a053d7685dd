use Rattle.std.proofs.Common.{◌≡◌, length, map}
use Rattle.std.specs.List.{list_any}
use Rattle.wy_syntax.specs.View.{declarator_of}
use Rattle.wy_members.specs.Declarations.{is_given_first}
use Rattle.wy_members.proofs.method_row.some_is_given_first.Given as goal

abbrev pub invariant-loop-left : goal.invariant-loop-left
invariant-loop-left l = list_any is_given_first (map declarator_of l.left) ≡ list_any is_given_first (map declarator_of l.initial.left)

abbrev pub decreases-loop-left : goal.decreases-loop-left
decreases-loop-left l = length l.left
