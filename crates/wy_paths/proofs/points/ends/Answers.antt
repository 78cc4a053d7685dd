use Rattle.std.proofs.Common.{◌≡◌, ◌∙◌, ◌++◌, ◌∷◌, [], get_or, take, sym, ap, subst, arith}
use Rattle.std.proofs.lemmas.Grind.{common_steps}
use Rattle.std.proofs.lemmas.List.{take_more}
use Rattle.wy_paths.specs.Numbers.{HasEnds}
use Rattle.wy_paths.proofs.Bridging.{some_link}
use Rattle.wy_paths.proofs.Numbering.{more_ends, no_ends}
use Rattle.wy_paths.proofs.points.ends.Goals as goal

pub loop-link-init : goal.loop-link-init
loop-link-init c =
    let items : c.push-2.new.self.items ≡ c.args.start ∷ c.args.goal ∷ [] =
    c.in_ok-push-2.ensures.items ∙ ap (λ l. l ++ c.args.goal ∷ []) (c.in_ok-push.ensures.items ∙ ap (λ l. l ++ c.args.start ∷ []) c.new-points.ensures.items) in
    subst (HasEnds [] c.args.start c.args.goal) (sym items) (no_ends c.args.start c.args.goal)

pub loop-link-preserved : goal.loop-link-preserved
loop-link-preserved c =
    let i = c.loop-link.link-index in
    let links = c.args.links.now in
    let l = get_or links i some_link in
    let items : c.push-in-loop-link-2.new.self.items ≡ (c.loop-link.points.items ++ l.from ∷ []) ++ l.to ∷ [] =
    c.in_ok-push-4.ensures.items ∙ ap (λ ps. ps ++ l.to ∷ []) c.in_ok-push-3.ensures.items in
    subst (λ ls. HasEnds ls c.args.start c.args.goal c.push-in-loop-link-2.new.self.items) (sym (take_more links i some_link c.loop-link-test.true))
    (subst (HasEnds (take i links ++ l ∷ []) c.args.start c.args.goal) (sym items) (more_ends (take i links) c.args.start c.args.goal c.loop-link.points.items l c.loop-link.invariant))

pub returns : goal.returns
returns c =
    let whole : take c.loop-link.link-index c.args.links.now ≡ c.args.links.now = grind (arith, common_steps) in
    subst (λ ls. HasEnds ls c.args.start c.args.goal c.loop-link.points.items) whole c.loop-link.invariant
