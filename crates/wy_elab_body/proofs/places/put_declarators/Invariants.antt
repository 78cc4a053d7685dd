use Rattle.std.proofs.Common.{◌≡◌, ◌++◌, take, map}
use Rattle.wy_elab_body.specs.Places.{declarator_places}
use Rattle.wy_syntax.specs.View.{declarator_of}
use Rattle.wy_elab_body.proofs.places.put_declarators.Given as goal

abbrev pub invariant-loop-declarator : goal.invariant-loop-declarator
invariant-loop-declarator l = l.all.items ≡ l.initial.all.items ++ declarator_places (map declarator_of (take l.declarator-index l.declarators))
