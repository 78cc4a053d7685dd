use Rattle.std.proofs.Common.{◌≡◌, ◌∙◌, ap, sym, rules, arith, map, take, length, ◌++◌, ◌∷◌, [], get_or}
use Rattle.std.proofs.lemmas.List.{length-take-le, map-append, length-map}
use Rattle.std.specs.List.{position_from}
use Rattle.wy_elab_expr.specs.Meaning.{has_units}
use Rattle.wy_constant.specs.Scopes.{text_of}
use Rattle.wy_elab_expr.proofs.TextPlaces.{placed_push}
use Rattle.wy_elab_expr.proofs.texts.places_of.Goals as goal

pub loop-i-preserved : goal.loop-i-preserved
loop-i-preserved c = placed_push c.args.list.now c.loop-i.i c.index-list-i.result c.loop-i.places c.put_place.new.places (omega arith) c.index-list-i.is c.loop-i.invariant c.in_ok-put_place.ensures
