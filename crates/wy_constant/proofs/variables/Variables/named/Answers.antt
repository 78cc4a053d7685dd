use Rattle.std.proofs.Common.{◌≡◌, ◌∙◌, ◌<◌, ap, sym, refl, rules, length, Some, None}
use Rattle.std.specs.Prelude.{option_map, slice_get}
use Rattle.std.specs.HashMap.{get_by_text}
use Rattle.std.proofs.lemmas.Option.{slice_get_read}
use Rattle.wy_constant.specs.Scopes.{variable_of}
use Rattle.wy_constant.proofs.Placing.{found_at, found_nowhere, within}
use Rattle.wy_constant.proofs.variables.Variables.named.Goals as goal

pub index-requires : goal.index-requires
index-requires c =
    let s = c.args.self.now in
    let at : get_by_text s.places c.args.name.now ≡ Some c.in-Some.place.now = search rules in
    let inside : c.in-Some.place.now < length s.list.items = within (get_by_text s.places) s.list.items c.args.name.now c.in-Some.place.now s.keeps_places at in
    search rules

pub returns-in-Some : goal.returns-in-Some
returns-in-Some c =
    let s = c.args.self.now in
    let at : get_by_text s.places c.args.name.now ≡ Some c.in-Some.place.now = search rules in
    let inside : c.in-Some.place.now < length s.list.items = within (get_by_text s.places) s.list.items c.args.name.now c.in-Some.place.now s.keeps_places at in
    let read : slice_get s.list.items c.in-Some.place.now ≡ Some c.index.result.now = slice_get_read s.list.items (length s.list.items) c.in-Some.place.now c.index.result.now refl inside c.index.ensures in
    sym (ap (option_map variable_of) read) ∙ found_at (get_by_text s.places) s.list.items c.args.name.now c.in-Some.place.now s.keeps_places at

pub returns-in-None : goal.returns-in-None
returns-in-None c =
    let s = c.args.self.now in
    let at : get_by_text s.places c.args.name.now ≡ None = search rules in
    found_nowhere (get_by_text s.places) s.list.items c.args.name.now s.keeps_places at
