use Rattle.std.proofs.Common.{◌≡◌, ◌∙◌, ◌<◌, ap, sym, arith, length, length-set, set, Some, None}
use Rattle.std.specs.Prelude.{option_copied}
use Rattle.wy_elab_expr.specs.Meaning.{text_number}
use Rattle.wy_elab_expr.specs.TextPlaces.{place_in}
use Rattle.wy_elab_expr.proofs.Listed.{lowers, lowers_place}
use Rattle.wy_elab_expr.proofs.TextPlaces.{stands, stands_nowhere, placed_again}
use Rattle.wy_elab_expr.proofs.texts.Texts.place.Goals as goal

pub index_mut-text-requires : goal.index_mut-text-requires
index_mut-text-requires c =
    let found : place_in c.self.inside.places c.args.units ≡ Some c.in-Some.at = sym c.get.ensures.value ∙ sym c.copied.ensures ∙ c.in-Some.is in
    let s = stands c.self.inside.list.items c.self.inside.places c.args.units c.in-Some.at c.self.inside.keeps_places found in
    let within = s.1 in
    omega arith

pub invariant_of-self-inside : goal.invariant_of-self-inside
invariant_of-self-inside c =
    let found : place_in c.self.inside.places c.args.units ≡ Some c.in-Some.at = sym c.get.ensures.value ∙ sym c.copied.ensures ∙ c.in-Some.is in
    let s = stands c.self.inside.list.items c.self.inside.places c.args.units c.in-Some.at c.self.inside.keeps_places found in
    let list = c.self.inside.list.items in
    let within = s.1 in
    let few = c.self.inside.few_texts in
    let many = length-set list c.in-Some.at (record { units = c.index_mut-text.result.now.units; token = c.min-text.result }) in
    (omega arith, (placed_again list c.in-Some.at c.index_mut-text.result.now c.min-text.result c.self.inside.places within c.index_mut-text.ensures.value c.self.inside.keeps_places, tt))

pub add-requires : goal.add-requires
add-requires c =
    let found : place_in c.self.inside.places c.args.units ≡ None = sym c.get.ensures.value ∙ sym c.copied.ensures ∙ c.in-None.is in
    ap (λ ts. text_number ts c.args.units.items) (sym c.self.view_is) ∙ stands_nowhere c.self.inside.list.items c.self.inside.places c.args.units c.self.inside.keeps_places found ∙ ap length c.self.view_is

pub returns-in-Some-clause-listed : goal.returns-in-Some-clause-listed
returns-in-Some-clause-listed c =
    let found : place_in c.self.inside.places c.args.units ≡ Some c.in-Some.at = sym c.get.ensures.value ∙ sym c.copied.ensures ∙ c.in-Some.is in
    let s = stands c.self.inside.list.items c.self.inside.places c.args.units c.in-Some.at c.self.inside.keeps_places found in
    lowers c.self.inside.list.items c.args.self.now c.args.units.items c.args.token c.in-Some.at c.index_mut-text.result.now c.min-text.result
    c.self.view_is s.0 s.1 c.index_mut-text.ensures.value c.min-text.ensures

pub returns-in-Some-clause-place : goal.returns-in-Some-clause-place
returns-in-Some-clause-place c =
    let found : place_in c.self.inside.places c.args.units ≡ Some c.in-Some.at = sym c.get.ensures.value ∙ sym c.copied.ensures ∙ c.in-Some.is in
    let s = stands c.self.inside.list.items c.self.inside.places c.args.units c.in-Some.at c.self.inside.keeps_places found in
    lowers_place c.self.inside.list.items c.args.self.now c.args.units.items c.args.token c.in-Some.at c.index_mut-text.result.now c.min-text.result
    c.self.view_is s.0 s.1 c.index_mut-text.ensures.value c.min-text.ensures
