use Rattle.std.proofs.Common.{◌∙◌, ap}
use Rattle.std.specs.Prelude.{option_and_then}
use Rattle.wy_travel.proofs.Reading.{index_of}
use Rattle.wy_watch.specs.Sight.{sight_seen}
use Rattle.wy_watch.specs.Value.{element_of, made}
use Rattle.wy_watch.proofs.Looking.{look_as, no_look}
use Rattle.wy_watch.proofs.value.element.Goals as goal

pub returns-in-Some-clause-looks : goal.returns-in-Some-clause-looks
returns-in-Some-clause-looks g c =
    let index = c.args.sight.now.index.now in
    let told = g.V.EventView.tells c.args.view.now in
    look_as _ _ _ _ _
    (λ rs is. ap (λ m. element_of (sight_seen rs c.args.sight.now) c.in-Some.array m c.args.index) (c.made-made.ensures rs (index_of index told rs is c.requires.index))
    ∙ ap (option_and_then (λ a. element_of (sight_seen rs c.args.sight.now) a (made (sight_seen rs c.args.sight.now) a) c.args.index)) c.in-Some.ensures)
    c.element_of.ensures.looks

pub returns-in-None-clause-looks : goal.returns-in-None-clause-looks
returns-in-None-clause-looks g c =
    no_look _ _ _ (λ rs told. ap (option_and_then (λ a. element_of (sight_seen rs c.args.sight.now) a (made (sight_seen rs c.args.sight.now) a) c.args.index)) c.in-None.ensures)
