use Rattle.std.proofs.Common.{◌∙◌, ap}
use Rattle.wy_travel.proofs.Reading.{index_of}
use Rattle.wy_watch.specs.Sight.{sight_seen}
use Rattle.wy_watch.specs.Value.{field_of, value_as}
use Rattle.wy_watch.proofs.Looking.{look_as, look_on, no_look}
use Rattle.wy_watch.proofs.value.named.Goals as goal

pub returns-in-Stored-clause-looks : goal.returns-in-Stored-clause-looks
returns-in-Stored-clause-looks g c =
    let index = c.args.sight.now.index.now in
    let told = g.V.EventView.tells c.args.view.now in
    look_as _ _ _ _ _ (λ rs is. ap (value_as (sight_seen rs c.args.sight.now)) (c.in-Stored.ensures.meaning rs (index_of index told rs is c.requires.index))) c.stored_at.ensures.looks

pub returns-in_ok-this-in-OfThis-clause-looks : goal.returns-in_ok-this-in-OfThis-clause-looks
returns-in_ok-this-in-OfThis-clause-looks g c =
    let index = c.args.sight.now.index.now in
    let told = g.V.EventView.tells c.args.view.now in
    look_on _ _ _ _ _ _ _ _
    (λ rs is this. ap (field_of (sight_seen rs c.args.sight.now) c.in-OfThis.field) this ∙ ap (value_as (sight_seen rs c.args.sight.now)) (c.in-OfThis.ensures.meaning rs (index_of index told rs is c.requires.index)))
    c.in_ok-this-in-OfThis.ensures.looks c.field_of.ensures.looks

pub returns-in-Nothing-clause-looks : goal.returns-in-Nothing-clause-looks
returns-in-Nothing-clause-looks g c =
    let index = c.args.sight.now.index.now in
    let told = g.V.EventView.tells c.args.view.now in
    no_look _ _ _ (λ rs is. ap (value_as (sight_seen rs c.args.sight.now)) (c.in-Nothing.ensures.meaning rs (index_of index told rs is c.requires.index)))
