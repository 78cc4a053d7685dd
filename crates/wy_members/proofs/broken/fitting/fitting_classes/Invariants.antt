use Rattle.std.proofs.Common.{◌≡◌, map, take}
use Rattle.wy_kernel.specs.View.{class_of}
use Rattle.wy_members.specs.Broken.{with_fitting_supertypes}
use Rattle.wy_members.proofs.broken.fitting.fitting_classes.Given as goal

abbrev pub invariant-loop-class : goal.invariant-loop-class
invariant-loop-class l = map class_of l.fitting.items ≡ map (with_fitting_supertypes (map class_of l.classes)) (map class_of (take l.class-index l.classes))
