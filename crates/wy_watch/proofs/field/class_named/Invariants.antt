use Rattle.std.proofs.Common.{◌≡◌, drop}
use Rattle.std.specs.List.{position_from}
use Rattle.std.specs.Str.{bytes_eq}
use Rattle.wy_kernel.specs.Parts.{program_of}
use Rattle.wy_watch.specs.Names.{class_named}
use Rattle.wy_watch.proofs.field.class_named.Given as goal

abbrev pub invariant-loop-n : goal.invariant-loop-n
invariant-loop-n l =
    class_named (program_of l.program) l.name ≡ position_from (λ c. bytes_eq c.name l.name) l.n (drop l.n (program_of l.program).classes)
