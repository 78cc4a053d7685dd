use Rattle.std.proofs.Common.{◌≡◌, ◌∙◌, sym, ap, arith, Vec, Global, take}
use Rattle.std.specs.Prelude.{filter}
use Rattle.std.proofs.lemmas.Grind.{common_steps}
use Rattle.wy_index.specs.declared.found.Hit.{Hit}
use Rattle.wy_paths.proofs.Lists.{filter_next, filter_pass}
use Rattle.wy_whynot.proofs.Targeting.{no_hit}
use Rattle.wy_scope.specs.Kept.{is_marked}
use Rattle.wy_scope.proofs.evidence.hits_in_scope.Goals as goal
use Rattle.wy_scope.proofs.evidence.hits_in_scope.Goals.{then-holds+in_ok-push, else-holds}

pub loop-hit-preserved : goal.loop-hit-preserved
loop-hit-preserved c =
    let test = is_marked c.args.scope.now in
    let hits = c.args.hits.now in
    let i = c.loop-hit.hit-index in
    elim c.if-holds.branch [
      | then-holds+in_ok-push w ↦ filter_next test hits i no_hit c.loop-hit.kept.items c.if-holds.kept.items c.loop-hit-test.true c.loop-hit.invariant
          (sym c.holds.ensures ∙ w.if-holds.true) (ap (λ (v : Vec Hit Global). v.items) w.kept-is ∙ w.in_ok-push.ensures.items)
      | else-holds w ↦ ap (λ (v : Vec Hit Global). v.items) w.kept-is ∙ filter_pass test hits i no_hit c.loop-hit.kept.items c.loop-hit-test.true c.loop-hit.invariant (sym c.holds.ensures ∙ w.if-holds.false)
    ]

pub returns : goal.returns
returns c =
    let whole : take c.loop-hit.hit-index c.args.hits.now ≡ c.args.hits.now = grind (arith, common_steps) in
    c.loop-hit.invariant ∙ ap (filter (is_marked c.args.scope.now)) whole
