use Rattle.std.proofs.Common.{◌≡◌, ◌∙◌, sym, ap, map}
use Rattle.wy_event.specs.declared.record.Cover.{Cover}
use Rattle.wy_whynot.specs.Evidence.{evidence, evidence_in}
use Rattle.wy_whynot.specs.Executed.{cover_of}
use Rattle.wy_whynot.proofs.Answering.{are_items}
use Rattle.wy_whynot.proofs.answer.whynot.Goals as goal

pub returns : goal.returns
returns c = λ p rs are is_index.
    let never : (cover_of c.args.coverage.now c.args.statement).begins ≡ 0 = sym (ap (λ (x : Cover). x.begins) c.cover_of-cover.ensures) ∙ c.if-cover-ne0.false in
    let blocked = c.in_ok-blocked.ensures p rs (c.all.ensures p are) is_index never in
    let items = c.in_ok-items.ensures p rs are is_index ∙ ap (map (evidence p rs c.args.coverage.now)) c.deref.ensures.value in
    (never, are_items p rs c.args.coverage.now c.args.statement c.in_ok-blocked.blocked.items (map evidence_in c.in_ok-items.items.items) blocked items)
