use Rattle.std.proofs.Common.{◌≡◌, ◌∙◌, ◌++◌, ⊎_elim, ap, map, sym}
use Rattle.wy_event.specs.Record.{recorded}
use Rattle.wy_kernel.specs.Parts.{program_of}
use Rattle.wy_telling.specs.Output.{output_text, whole_lines}
use Rattle.wy_expect.specs.Beside.{beside_text}
use Rattle.wy_expect.specs.Expected.{plain}
use Rattle.wy_expect.specs.Texts as says
use Rattle.wy_expect.proofs.Staying.{opened_still, same_records}
use Rattle.wy_expect.proofs.text.begun_text.Goals as goal

pub never_text-requires : goal.never_text-requires
never_text-requires c = opened_still c.args.opened.now c.report.new.opened c.in_ok-report.ensures.stays c.requires.opened

pub returns : goal.returns
returns c =
    let o = c.args.opened.now in
    let p = program_of o.program.now in
    let stays = c.in_ok-report.ensures.stays in
    let same = same_records o c.report.new.opened stays in
    let found = c.in_ok-found.ensures ∙ ap plain (c.as_slice-2.ensures.value ∙ c.in_ok-report.ensures.text) in
    says.missing c.in_ok-never.never.items
    (⊎_elim (λ h. c.is_same.ensures.other c.if-is_same.false (h ∙ sym (c.as_slice.ensures.value ∙ c.in_ok-lines.ensures ∙ ap whole_lines c.requires.output)))
    (λ h. c.is_same-2.ensures.other c.if-is_same-2.false (h ∙ sym (c.as_slice-3.ensures.value ∙ found))))
    (rw (stays.program, stays.coverage, same) at c.in_ok-never.ensures)
    (c.in_ok-extend_from_slice.ensures.items ∙ ap (λ xs. c.in_ok-out.out.items ++ xs) c.as_slice-5.ensures.value
    ∙ ap (λ xs. xs ++ c.in_ok-never.never.items) (c.in_ok-out.ensures ∙ ap (beside_text c.args.expected.now) (c.as_slice-4.ensures.value ∙ found)))
