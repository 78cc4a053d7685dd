use Rattle.std.proofs.Common.{◌≡◌, ◌++◌, length, map}
use Rattle.std.specs.Prelude.{option_map}
use Rattle.wy_kernel.specs.Table.{constant_value}
use Rattle.wy_kernel.specs.View.{field_of}
use Rattle.wy_members.specs.Declarations.{no_constants}
use Rattle.wy_members.proofs.program_table.no_constants.Given as goal

abbrev pub invariant-loop-left : goal.invariant-loop-left
invariant-loop-left l =
    map (option_map constant_value) l.places.items ++ no_constants (map field_of l.left) ≡ no_constants (map field_of l.initial.left)

abbrev pub decreases-loop-left : goal.decreases-loop-left
decreases-loop-left l = length l.left
