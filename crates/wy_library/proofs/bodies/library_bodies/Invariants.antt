use Rattle.std.proofs.Common.{◌≡◌, ◌+◌, ◌++◌, drop}
use Rattle.std.specs.Prelude.{map, option_map}
use Rattle.wy_kernel.specs.View.{body_of}
use Rattle.wy_library.specs.Library.{constructors_from}
use Rattle.wy_library.proofs.Superclasses.{superclasses}
use Rattle.wy_library.proofs.bodies.library_bodies.Given as goal

abbrev pub invariant-loop-index : goal.invariant-loop-index
invariant-loop-index l =
    map (option_map body_of) l.all.items ++ constructors_from (3 + l.index) (drop l.index superclasses)
    ≡ map (option_map body_of) l.initial.all.items ++ constructors_from 3 superclasses
