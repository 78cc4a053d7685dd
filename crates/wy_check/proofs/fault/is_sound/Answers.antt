use Rattle.std.proofs.Common.{◌≡◌, inl, inr, true, false, refl, sym, ap, ◌∙◌, eq-eqb}
use Rattle.std.proofs.lemmas.Bool.{false≢true}
use Rattle.wy_check.specs.Marks.{mark_of}
use Rattle.wy_check.proofs.Faults.{mark_at, marked_if, no_mark, not_needed, not_told, not_weighed, weighed_sound}
use Rattle.wy_check.proofs.fault.is_sound.Goals as goal

pub returns-then-line-asked-clause-sound : goal.returns-then-line-asked-clause-sound
returns-then-line-asked-clause-sound c = λ owner rs cert w asked at.
    let line = c.args.line.now in
    let said = mark_at c.args.weighing.now.sound.items c.deref.result.now c.args.place c.in-Some.told true c.in-Some.ensures c.deref.ensures.value c.if-told.true in
    (λ _. weighed_sound owner rs cert c.args.weighing.now w c.args.place line at said.0 said.1 (inl (c.if-line-asked.true ∙ asked)), λ _. eq-eqb line.event c.args.asked c.if-line-asked.true)

pub returns-then-line-asked-clause-there : goal.returns-then-line-asked-clause-there
returns-then-line-asked-clause-there c = λ _. (mark_at c.args.weighing.now.sound.items c.deref.result.now c.args.place c.in-Some.told true c.in-Some.ensures c.deref.ensures.value c.if-told.true).0

pub returns-else-line-asked-clause-sound : goal.returns-else-line-asked-clause-sound
returns-else-line-asked-clause-sound c = λ owner rs cert w asked at.
    let line = c.args.line.now in
    let said = mark_at c.args.weighing.now.sound.items c.deref.result.now c.args.place c.in-Some.told true c.in-Some.ensures c.deref.ensures.value c.if-told.true in
    let mark : c.is_marked.result ≡ mark_of c.args.weighing.now.needed.items line.event = c.is_marked.ensures ∙ ap (λ ms. mark_of ms line.event) c.deref-else-line-asked.ensures.value in (
      λ marked. weighed_sound owner rs cert c.args.weighing.now w c.args.place line at said.0 said.1 (inr (sym mark ∙ marked)),
      λ sound. marked_if c.is_marked.result (λ out. not_needed owner rs cert c.args.weighing.now w c.args.place line at (λ is. c.if-line-asked.false (is ∙ sym asked)) (sym mark ∙ out) sound),
    )

pub returns-else-line-asked-clause-there : goal.returns-else-line-asked-clause-there
returns-else-line-asked-clause-there c = λ _. (mark_at c.args.weighing.now.sound.items c.deref.result.now c.args.place c.in-Some.told true c.in-Some.ensures c.deref.ensures.value c.if-told.true).0

pub returns-else-told-clause-sound : goal.returns-else-told-clause-sound
returns-else-told-clause-sound c = λ owner rs cert w asked at.
    let line = c.args.line.now in
    let said = mark_at c.args.weighing.now.sound.items c.deref.result.now c.args.place c.in-Some.told false c.in-Some.ensures c.deref.ensures.value c.if-told.false in
    (λ is. absurd (false≢true (sym c.if-told.false ∙ is)), λ sound. absurd (not_told owner rs cert c.args.weighing.now w c.args.place line at said.0 said.1 sound))

pub returns-in-None-clause-sound : goal.returns-in-None-clause-sound
returns-in-None-clause-sound c = λ owner rs cert w asked at.
    let far = no_mark c.args.weighing.now.sound.items c.deref.result.now c.args.place c.in-None.ensures c.deref.ensures.value in
    (λ is. absurd (false≢true is), λ sound. absurd (not_weighed owner rs cert c.args.weighing.now w c.args.place c.args.line.now at far sound))
