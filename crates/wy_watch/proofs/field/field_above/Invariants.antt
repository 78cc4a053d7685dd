use Rattle.std.proofs.Common.{◌≡◌, ◌-◌, length}
use Rattle.wy_kernel.specs.Parts.{program_of}
use Rattle.wy_watch.specs.Names.{field_above, field_within}
use Rattle.wy_watch.proofs.field.field_above.Given as goal

abbrev pub invariant-loop : goal.invariant-loop
invariant-loop l =
    field_above (program_of l.program) l.is_static l.class l.name ≡ field_within (length l.program.classes.items - l.counter) (program_of l.program) l.is_static l.at l.name
