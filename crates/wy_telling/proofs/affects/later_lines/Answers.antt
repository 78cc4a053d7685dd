use Rattle.std.proofs.Common.{◌≡◌, ◌∙◌, ◌+◌, [], length, sym, ap, subst, eqb-true}
use Rattle.std.proofs.lemmas.Bool.{eqb-false}
use Rattle.std.specs.Prelude.{filter}
use Rattle.std.proofs.lemmas.List.{nil_from_length}
use Rattle.wy_kernel.specs.Parts.{program_of}
use Rattle.wy_why.specs.Answer.{Rises}
use Rattle.wy_telling.proofs.Answering.{affects_told, from_zero, nothing_told}
use Rattle.wy_telling.proofs.affects.later_lines.Goals as goal

pub marked_lines-requires : goal.marked_lines-requires
marked_lines-requires g c =
    let count = (g.V.EventView.tells c.affects.new.view).count in
    let found = c.in_ok-found.found in
    let rises = subst (λ n. Rises (c.args.event + 1) n found.all.items) (sym c.affects.ensures.keeps.count) c.in_ok-found.ensures.rises.0 in
    record { there = subst (Rises 0 count) (sym c.as_slice-all.ensures.value) (from_zero (c.args.event + 1) count found.all.items rises) }

pub returns-then-is_empty-clause-lines : goal.returns-then-is_empty-clause-lines
returns-then-is_empty-clause-lines g c = λ rs is.
    let o = c.args.opened.now in
    let found = c.in_ok-found.found in
    let none : found.all.items ≡ [] = nil_from_length found.all.items (sym found.all.ok.0 ∙ eqb-true _ 0 (sym c.is_empty.ensures ∙ c.if-is_empty.true)) in
    nothing_told (program_of o.program.now) o.program.now.lines.items rs c.args.event o.index found.all.items _ c.requires.opened.owners (c.in_ok-found.ensures.all rs is) none c.in_ok-nothing_later.ensures

pub returns-clause-lines : goal.returns-clause-lines
returns-clause-lines g c = λ rs is.
    let o = c.args.opened.now in
    let found = c.in_ok-found.found in
    let all = c.as_slice-all.ensures.value in
    let flow = c.as_slice-flow.ensures.value in
    affects_told (program_of o.program.now) o.program.now.lines.items rs c.args.event o.index found.all.items found.flow.items c.marked_lines.result c.requires.opened.owners (c.in_ok-found.ensures.all rs is) (c.in_ok-found.ensures.flow rs is)
    (λ none. eqb-false _ 0 (sym c.is_empty.ensures ∙ c.if-is_empty.false) (found.all.ok.0 ∙ ap length none))
    (λ by_data of. rw (all) at (c.marked_lines.ensures.lines rs (c.affects.ensures.keeps.records ∙ is) by_data (flow ∙ of ∙ ap (filter by_data) (sym all))))
