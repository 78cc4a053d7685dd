use Rattle.std.proofs.Common.{◌≡◌, ◌∙◌, ap, map, refl, subst}
use Rattle.std.proofs.lemmas.Option.{same_Some}
use Rattle.wy_event.specs.Record.{recorded}
use Rattle.wy_kernel.specs.Parts.{program_of}
use Rattle.wy_fold.specs.Groups.{IsTable}
use Rattle.wy_fold.specs.Places.{line_at}
use Rattle.wy_fold.proofs.Slicing.{sliced_told}
use Rattle.wy_fold.proofs.slice.slice_by.Goals as goal

pub returns-clause-lines : goal.returns-clause-lines
returns-clause-lines g c =
    let o = c.args.opened.now in
    let lines = o.program.now.lines.items in
    let rs = map recorded o.view.events.items in
    let seen : map recorded c.as_slice-records.result.now ≡ rs = ap (map recorded) c.as_slice-records.ensures.value ∙ same_Some _ _ c.why.ensures.keeps.records in
    let all = subst (λ r. IsTable (line_at lines r) c.in_ok-all.all) seen c.in_ok-all.ensures.table in
    let flow = subst (λ r. IsTable (line_at lines r) c.in_ok-flow.flow) seen c.in_ok-flow.ensures.table in
    let found = c.in_ok-answer.ensures in
    sliced_told (program_of o.program.now) lines c.args.source.now rs c.args.event o.index c.in_ok-answer.answer.all.items c.in_ok-answer.answer.flow.items _ _ _ _ _
    c.requires.opened.owners (found.all rs refl) (found.flow rs refl)
    (ap (λ s. s.now) c.in_ok-all.ensures.events ∙ c.as_slice.ensures.value) (ap (λ s. s.now) c.in_ok-flow.ensures.events ∙ c.as_slice-2.ensures.value) c.in_ok-lines.ensures (rw (c.as_slice-3.ensures.value) at c.in_ok-text.ensures (line_at lines rs) all flow) c.in_ok-or_nothing.ensures
