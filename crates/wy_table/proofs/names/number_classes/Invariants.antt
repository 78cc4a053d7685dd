use Rattle.std.proofs.Common.{◌≡◌, ◌+◌, ℕ, List, length, map}
use Rattle.std.specs.HashMap.{get_by_text}
use Rattle.std.specs.List.{position_from}
use Rattle.std.specs.Str.{bytes_eq}
use Rattle.wy_kernel.specs.View.{class_of}
use Rattle.wy_table.proofs.FirstNumbers.{first_of}
use Rattle.wy_table.proofs.names.number_classes.Given as goal

abbrev pub invariant-loop-left : goal.invariant-loop-left
invariant-loop-left l =
    (l.next + length l.left ≡ length l.classes)
    × ((q : List ℕ) → first_of (get_by_text l.numbers q) (position_from (λ c. bytes_eq c.name q) l.next (map class_of l.left)) ≡ position_from (λ c. bytes_eq c.name q) 0 (map class_of l.classes))

abbrev pub decreases-loop-left : goal.decreases-loop-left
decreases-loop-left l = length l.left
