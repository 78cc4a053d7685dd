use Rattle.std.proofs.Common.{◌≡◌, ◌-◌, length}
use Rattle.wy_kernel.specs.Parts.{program_of}
use Rattle.wy_ask.specs.Asked.{extends}
use Rattle.wy_ask.proofs.field.extends.Given as goal

abbrev pub invariant-loop : goal.invariant-loop
invariant-loop l = extends (program_of l.program) (length l.program.classes.items) l.number l.other ≡ extends (program_of l.program) (l.end - l.counter) l.at l.other
