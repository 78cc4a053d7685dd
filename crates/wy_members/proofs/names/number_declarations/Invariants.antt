use Rattle.std.proofs.Common.{◌≡◌, ◌<◌, ◌+◌, ℕ, List, length, map}
use Rattle.std.specs.HashMap.{get_by_text}
use Rattle.wy_kernel.specs.Builtin.{no_site}
use Rattle.wy_syntax.specs.View.{declaration_of}
use Rattle.wy_members.specs.Declarations.{written_names}
use Rattle.wy_members.specs.Numbers.{numbered_all}
use Rattle.wy_members.proofs.names.number_declarations.Given as goal

abbrev pub invariant-loop-left : goal.invariant-loop-left
invariant-loop-left l =
    (l.next + length (written_names (map declaration_of l.left)) ≡ l.initial.next + length (written_names (map declaration_of l.initial.left)))
    × (l.initial.next < no_site → l.next < no_site)
    × ((q : List ℕ) → numbered_all q (get_by_text l.numbers q) l.next (written_names (map declaration_of l.left)) ≡ numbered_all q (get_by_text l.initial.numbers q) l.initial.next (written_names (map declaration_of l.initial.left)))

abbrev pub decreases-loop-left : goal.decreases-loop-left
decreases-loop-left l = length l.left
