use Rattle.std.proofs.Common.{All, length, take}
use Rattle.wy_kernel.specs.View.{class_of}
use Rattle.wy_static.proofs.Naming.{NamesBelow}
use Rattle.wy_static.proofs.class.names_among.Given as goal

abbrev pub invariant-loop-class : goal.invariant-loop-class
invariant-loop-class l = All (λ k. NamesBelow (length l.classes) (class_of k)) (take l.class-index l.classes)
