use Rattle.std.proofs.Common.{◌≡◌}
use Rattle.std.specs.Prelude.{map, option_map, replicate, None}
use Rattle.wy_kernel.specs.View.{body_of}
use Rattle.wy_library.proofs.bodies.library_init_bodies.Given as goal

abbrev pub invariant-loop-class : goal.invariant-loop-class
invariant-loop-class l = map (option_map body_of) l.all.items ≡ replicate l._class None
