use Rattle.std.proofs.Common.{◌∙◌, ◌++◌, ap, arith, length, map, refl, subst, sym}
use Rattle.std.specs.Prelude.{if◌then◌else◌}
use Rattle.std.proofs.lemmas.Option.{same_Some}
use Rattle.wy_event.specs.Record.{recorded}
use Rattle.wy_kernel.specs.Parts.{program_of}
use Rattle.wy_why.specs.Answer.{Rises}
use Rattle.wy_fold.specs.Groups.{IsFold}
use Rattle.wy_fold.specs.Rows.{count_line}
use Rattle.wy_fold.proofs.Folding.{answer_folded, can_be_shown, folded_told, shown_rises}
use Rattle.wy_fold.proofs.fold.show_by.Goals as goal

pub group_lines-requires : goal.group_lines-requires
group_lines-requires g c =
    let o = c.args.opened.now in
    let now = c.why.new.view.events.items in
    let answer = c.in_ok-answer.answer in
    let rises = shown_rises c.args.event (length now) c.args.showing.by_data answer.all.items answer.flow.items (omega (arith, c.requires.there, c.why.ensures.keeps.count)) c.in_ok-answer.ensures.rises.0 c.in_ok-answer.ensures.rises.1 in
    record { there = can_be_shown o.program.now.lines.items (map recorded now) c.args.source.now c.shown.result.now c.as_slice.result.now c.in_ok-fold.fold (length now) c.in_ok-fold.ensures (subst (Rises 0 (length now)) (sym c.shown.ensures) rises) }

pub returns-clause-rows : goal.returns-clause-rows
returns-clause-rows g c =
    let o = c.args.opened.now in
    let p = program_of o.program.now in
    let lines = o.program.now.lines.items in
    let source = c.args.source.now in
    let rs = map recorded o.view.events.items in
    let answer = c.in_ok-answer.answer in
    let fold = c.in_ok-fold.fold in
    let seen = same_Some _ _ c.why.ensures.keeps.records in
    let a = subst (λ r. IsFold lines r source c.shown.result.now c.as_slice.result.now fold) seen c.in_ok-fold.ensures in
    let b = subst (λ l. IsFold lines rs source l c.as_slice.result.now fold) c.shown.ensures a in
    let is = subst (λ l. IsFold lines rs source (if c.args.showing.by_data then answer.flow.items else answer.all.items) l fold) c.as_slice.ensures.value b in
    let nice = answer_folded p lines source rs c.args.event c.args.showing o.index answer.all.items answer.flow.items fold c.requires.opened.owners (c.in_ok-answer.ensures.all rs refl) (c.in_ok-answer.ensures.flow rs refl) is in
    folded_told p lines source rs c.args.event c.args.showing fold c.in_ok-out.out.items c.put_count_line.new.out.items nice (c.in_ok-out.ensures.lines rs c.why.ensures.keeps.records)
    (c.in_ok-put_count_line.ensures ∙ ap (λ n. c.in_ok-out.out.items ++ count_line c.args.showing (length fold.all.events.now) n) (c.len.ensures ∙ fold.groups.ok.0))
