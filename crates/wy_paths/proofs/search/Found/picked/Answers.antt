use Rattle.std.proofs.Common.{◌≡◌, ◌∙◌, sym, ap, arith, Vec, Global, take}
use Rattle.std.specs.Prelude.{filter}
use Rattle.std.proofs.lemmas.Grind.{common_steps}
use Rattle.wy_static.specs.declared.point.Link.{Link}
use Rattle.wy_paths.specs.Numbers.{is_picked}
use Rattle.wy_paths.proofs.Bridging.{some_link}
use Rattle.wy_paths.proofs.Lists.{filter_next, filter_pass}
use Rattle.wy_paths.proofs.search.Found.picked.Goals as goal
use Rattle.wy_paths.proofs.search.Found.picked.Goals.{then-picks+in_ok-push, else-picks}

pub loop-link-preserved : goal.loop-link-preserved
loop-link-preserved c =
    let test = is_picked c.args.self.now in
    let links = c.args.links.now in
    let i = c.loop-link.link-index in
    elim c.if-picks.branch [
      | then-picks+in_ok-push w ↦ filter_next test links i some_link c.loop-link.picked.items c.if-picks.picked.items c.loop-link-test.true c.loop-link.invariant
          (sym c.picks.ensures ∙ w.if-picks.true) (ap (λ (v : Vec Link Global). v.items) w.picked-is ∙ w.in_ok-push.ensures.items)
      | else-picks w ↦ ap (λ (v : Vec Link Global). v.items) w.picked-is ∙ filter_pass test links i some_link c.loop-link.picked.items c.loop-link-test.true c.loop-link.invariant (sym c.picks.ensures ∙ w.if-picks.false)
    ]

pub returns : goal.returns
returns c =
    let whole : take c.loop-link.link-index c.args.links.now ≡ c.args.links.now = grind (arith, common_steps) in
    c.loop-link.invariant ∙ ap (filter (is_picked c.args.self.now)) whole
