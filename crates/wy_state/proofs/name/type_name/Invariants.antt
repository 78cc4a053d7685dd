use Rattle.std.proofs.Common.{◌≡◌, ◌++◌}
use Rattle.wy_kernel.specs.Parts.{program_of}
use Rattle.wy_meaning.specs.Library.{brackets_text, type_name}
use Rattle.wy_state.proofs.name.type_name.Given as goal

abbrev pub invariant-loop-left : goal.invariant-loop-left
invariant-loop-left l = l.name.items ++ brackets_text l.left ≡ type_name (program_of l.fn.program) l.fn.ty

abbrev pub decreases-loop-left : goal.decreases-loop-left
decreases-loop-left l = l.left
