use Rattle.std.proofs.Common.{◌≡◌, ◌++◌, take, map}
use Rattle.wy_elab_body.specs.Places.{effect_places}
use Rattle.wy_syntax.specs.View.{effect_of}
use Rattle.wy_elab_body.proofs.places.put_effects.Given as goal

abbrev pub invariant-loop-effect : goal.invariant-loop-effect
invariant-loop-effect l = l.all.items ≡ l.initial.all.items ++ effect_places (map effect_of (take l.effect-index l.effects))
