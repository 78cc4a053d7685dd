use Rattle.std.proofs.Common.{map, take}
use Rattle.wy_constant.specs.Scopes.{text_of}
use Rattle.wy_elab_expr.specs.TextPlaces.{KeepsTextPlaces}
use Rattle.wy_elab_expr.proofs.texts.places_of.Given as goal

abbrev pub invariant-loop-i : goal.invariant-loop-i
invariant-loop-i l = KeepsTextPlaces (map text_of (take l.i l.list)) l.places
