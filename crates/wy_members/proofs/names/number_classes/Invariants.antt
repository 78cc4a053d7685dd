use Rattle.std.proofs.Common.{◌≡◌, ◌+◌, ℕ, List, length, map}
use Rattle.std.specs.HashMap.{get_by_text}
use Rattle.wy_kernel.specs.View.{class_of}
use Rattle.wy_members.specs.Declarations.{name_of}
use Rattle.wy_members.specs.Numbers.{numbered_all}
use Rattle.wy_members.proofs.names.number_classes.Given as goal

abbrev pub invariant-loop-left : goal.invariant-loop-left
invariant-loop-left l =
    (l.next + length l.left ≡ length l.initial.left)
    × ((q : List ℕ) → numbered_all q (get_by_text l.numbers q) l.next (map name_of (map class_of l.left)) ≡ numbered_all q (get_by_text l.initial.numbers q) 0 (map name_of (map class_of l.initial.left)))

abbrev pub decreases-loop-left : goal.decreases-loop-left
decreases-loop-left l = length l.left
