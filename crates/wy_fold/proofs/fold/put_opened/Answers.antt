use Rattle.std.proofs.Common.{◌∙◌, ◌++◌, ap, subst, sym}
use Rattle.std.specs.Prelude.{filter}
use Rattle.wy_kernel.specs.Parts.{program_of}
use Rattle.wy_telling.specs.Answers.{marked_lines}
use Rattle.wy_why.specs.Answer.{Rises}
use Rattle.wy_fold.specs.Groups.{row_of}
use Rattle.wy_fold.specs.Shown.{opened_text}
use Rattle.wy_fold.proofs.Tables.{row_read}
use Rattle.wy_fold.proofs.fold.put_opened.Goals as goal

pub answer_lines-requires : goal.answer_lines-requires
answer_lines-requires g c =
    let line = c.args.group.line in
    let row = c.in_ok-from_slice.ensures.items ∙ c.as_slice.ensures.value ∙ row_read c.args.fold.now.all line c.index.result.now c.requires.in_all c.index.ensures in
    record { there = subst (Rises 0 (g.V.EventView.tells c.args.view.now).count) (sym row) c.requires.rises }

pub returns-clause-lines : goal.returns-clause-lines
returns-clause-lines g c = λ rs is by_data of.
    let p = program_of c.args.program.now in
    let lines = c.args.program.now.lines.items in
    let line = c.args.group.line in
    let row = c.in_ok-from_slice.ensures.items ∙ c.as_slice.ensures.value ∙ row_read c.args.fold.now.all line c.index.result.now c.requires.in_all c.index.ensures in
    let flowing = c.in_ok-from_slice-2.ensures.items ∙ c.as_slice-2.ensures.value ∙ row_read c.args.fold.now.flow line c.index-2.result.now c.requires.in_flow c.index-2.ensures in
    let told = c.in_ok-text.ensures.lines rs is by_data (flowing ∙ of line ∙ ap (filter by_data) (sym row)) in
    c.in_ok-extend_from_slice.ensures.items
    ∙ ap (λ t. c.args.out.now.items ++ t) (c.as_slice-3.ensures.value ∙ told ∙ ap (marked_lines p lines rs by_data) row
    ∙ ap (λ b. opened_text p lines rs by_data b (row_of c.args.fold.now.all line)) (sym c.if-not-is_open.false))
