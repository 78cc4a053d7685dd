use Rattle.std.proofs.Common.{◌≡◌, ◌++◌, length, map}
use Rattle.wy_syntax.specs.View.{declarator_of}
use Rattle.wy_elab_body.specs.Places.{initialized_places}
use Rattle.wy_elab_body.proofs.class_places.put_initialized.Given as goal

abbrev pub invariant-loop-left : goal.invariant-loop-left
invariant-loop-left l =
    l.all.items ++ initialized_places (map declarator_of l.left) ≡ l.initial.all.items ++ initialized_places (map declarator_of l.initial.left)

abbrev pub decreases-loop-left : goal.decreases-loop-left
decreases-loop-left l = length l.left
