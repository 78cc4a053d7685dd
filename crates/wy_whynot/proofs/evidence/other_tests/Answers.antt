use Rattle.std.proofs.Common.{◌≡◌, ◌∙◌, refl, sym, ap, arith, ℕ, Vec, Global, take}
use Rattle.std.specs.Prelude.{filter}
use Rattle.std.proofs.lemmas.Grind.{common_steps}
use Rattle.wy_index.specs.declared.found.Hit.{Hit}
use Rattle.wy_whynot.specs.Evidence.{events_of, gave_another}
use Rattle.wy_paths.proofs.Lists.{filter_pass, kept_next}
use Rattle.wy_whynot.proofs.evidence.other_tests.Goals as goal
use Rattle.wy_whynot.proofs.evidence.other_tests.Goals.{then-gave_another+in_ok-push, else-gave_another}

pub loop-hit-preserved : goal.loop-hit-preserved
loop-hit-preserved c =
    let test = gave_another c.args.arm in
    let hits = c.args.hits.now in
    let i = c.loop-hit.hit-index in
    elim c.if-gave_another.branch [
      | then-gave_another+in_ok-push w ↦ kept_next (λ (h : Hit). h.event) test hits i _ c.loop-hit.tests.items c.if-gave_another.tests.items c.loop-hit-test.true c.loop-hit.invariant
          (sym c.gave_another.ensures ∙ w.if-gave_another.true) (ap (λ (v : Vec ℕ Global). v.items) w.tests-is ∙ w.in_ok-push.ensures.items)
      | else-gave_another w ↦ ap (λ (v : Vec ℕ Global). v.items) w.tests-is ∙ c.loop-hit.invariant ∙ ap events_of (filter_pass test hits i _ (filter test (take i hits)) c.loop-hit-test.true refl (sym c.gave_another.ensures ∙ w.if-gave_another.false))
    ]

pub returns : goal.returns
returns c =
    let whole : take c.loop-hit.hit-index c.args.hits.now ≡ c.args.hits.now = grind (arith, common_steps) in
    c.loop-hit.invariant ∙ ap (λ hs. events_of (filter (gave_another c.args.arm) hs)) whole
