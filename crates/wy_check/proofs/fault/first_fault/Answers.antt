-- Lines are looked at from the first, so the first one at fault is of the least event.
use Rattle.std.proofs.Common.{◌≡◌, ◌<◌, ◌≤◌, ◌^◌, length, Some, refl, sym, ap, ◌∙◌, subst, ⊎_elim, arith}
use Rattle.std.specs.Prelude.{slice_get}
use Rattle.std.proofs.lemmas.Bool.{cases_lt, false≢true}
use Rattle.std.proofs.lemmas.Option.{same_Some, slice_get_read, slice_get_within}
use Rattle.wy_cert.specs.Goodness.{IsSound}
use Rattle.wy_check.proofs.Faults.{all_are_sound, first_is_least}
use Rattle.wy_check.proofs.fault.first_fault.Goals as goal

pub returns-then-not-is_sound-clause-first : goal.returns-then-not-is_sound-clause-first
returns-then-not-is_sound-clause-first c = λ owner rs cert w asked listed.
    let ls = c.args.lines.now in
    let i = c.loop-place.place in
    let line = c.index-lines-place.result in
    let there : slice_get cert.listed i ≡ Some line = ap (λ l. slice_get l i) listed ∙ slice_get_read ls (length ls) i line refl c.loop-place-test.true c.index-lines-place.is in
    first_is_least owner rs cert (2 ^ 32) w.rises i line there
    (λ sound. false≢true (sym c.if-not-is_sound.true ∙ (c.is_sound.ensures.sound owner rs cert w asked there).1 sound))
    (λ j k at lt. c.loop-place.invariant.sound owner rs cert w asked listed j k (sym (ap (λ l. slice_get l j) listed) ∙ at) lt)
    line.event refl

pub loop-place-preserved : goal.loop-place-preserved
loop-place-preserved c =
    let ls = c.args.lines.now in
    let i = c.loop-place.place in
    let line = c.index-lines-place.result in
    let here : slice_get ls i ≡ Some line = slice_get_read ls (length ls) i line refl c.loop-place-test.true c.index-lines-place.is in
    record {
      sound = λ owner rs cert w asked listed j k at lt. ⊎_elim
          (λ (front : j < i). c.loop-place.invariant.sound owner rs cert w asked listed j k at front)
          (λ (last : i ≤ j).
          let place : i ≡ j = omega (arith, last, lt) in
          let same : line ≡ k = same_Some line k (sym here ∙ ap (slice_get ls) place ∙ at) in
          subst (IsSound owner rs cert) same ((c.is_sound.ensures.sound owner rs cert w asked (ap (λ l. slice_get l i) listed ∙ here)).0 c.if-not-is_sound.false))
          (cases_lt j i);
      few = (let there = c.is_sound.ensures.there c.if-not-is_sound.false in omega (arith, there));
    }

pub returns-clause-first : goal.returns-clause-first
returns-clause-first c = λ owner rs cert w asked listed.
    all_are_sound owner rs cert (λ j k at.
    let here : slice_get c.args.lines.now j ≡ Some k = sym (ap (λ l. slice_get l j) listed) ∙ at in
    let within = slice_get_within c.args.lines.now j k here in
    c.loop-place.invariant.sound owner rs cert w asked listed j k here (omega (arith, within, c.loop-place-test.false)))
