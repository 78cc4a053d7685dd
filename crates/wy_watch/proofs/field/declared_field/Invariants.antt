use Rattle.std.proofs.Common.{◌≡◌, drop}
use Rattle.std.specs.List.{position_from}
use Rattle.wy_kernel.specs.Parts.{program_of}
use Rattle.wy_watch.specs.Names.{declared_field, is_meant}
use Rattle.wy_watch.proofs.field.declared_field.Given as goal

abbrev pub invariant-loop-n : goal.invariant-loop-n
invariant-loop-n l =
    declared_field (program_of l.program) l.is_static l.class l.name ≡ position_from (is_meant l.is_static l.class l.name) l.n (drop l.n (program_of l.program).fields)
