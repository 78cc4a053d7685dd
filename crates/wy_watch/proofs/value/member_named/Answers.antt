use Rattle.std.proofs.Common.{◌∙◌, ap, sym}
use Rattle.wy_syntax.specs.View.{expression_of}
use Rattle.wy_travel.proofs.Reading.{index_of}
use Rattle.wy_watch.specs.Sight.{sight_seen}
use Rattle.wy_watch.specs.Value.{is_this, member, member_in}
use Rattle.wy_watch.proofs.Looking.{look_as}
use Rattle.wy_watch.proofs.value.member_named.Goals as goal

pub returns-in-Some-clause-looks : goal.returns-in-Some-clause-looks
returns-in-Some-clause-looks g c =
    let index = c.args.sight.now.index.now in
    let told = g.V.EventView.tells c.args.view.now in
    look_as _ _ _ _ _ (λ rs is. ap (λ k. member_in (sight_seen rs c.args.sight.now) c.args.name.now k (is_this (expression_of c.args.object.now)) c.args.of) (c.in-Some.ensures.class rs (index_of index told rs is c.requires.index))) c.static_value.ensures.looks

pub returns-then-is_this-clause-looks : goal.returns-then-is_this-clause-looks
returns-then-is_this-clause-looks g c =
    let index = c.args.sight.now.index.now in
    let told = g.V.EventView.tells c.args.view.now in
    look_as _ _ _ _ _
    (λ rs is. ap (λ b. member (sight_seen rs c.args.sight.now) c.args.name.now b c.args.of) (sym c.if-is_this.true ∙ c.is_this.ensures)
    ∙ ap (λ k. member_in (sight_seen rs c.args.sight.now) c.args.name.now k (is_this (expression_of c.args.object.now)) c.args.of) (c.in_default.ensures.class rs (index_of index told rs is c.requires.index)))
    c.member_of_this.ensures.looks

pub returns-else-is_this-clause-looks : goal.returns-else-is_this-clause-looks
returns-else-is_this-clause-looks g c =
    let index = c.args.sight.now.index.now in
    let told = g.V.EventView.tells c.args.view.now in
    look_as _ _ _ _ _
    (λ rs is. ap (λ b. member (sight_seen rs c.args.sight.now) c.args.name.now b c.args.of) (sym c.if-is_this.false ∙ c.is_this.ensures)
    ∙ ap (λ k. member_in (sight_seen rs c.args.sight.now) c.args.name.now k (is_this (expression_of c.args.object.now)) c.args.of) (c.in_default.ensures.class rs (index_of index told rs is c.requires.index)))
    c.member.ensures.looks
