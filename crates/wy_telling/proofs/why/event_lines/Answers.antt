use Rattle.std.proofs.Common.{◌∙◌, ◌+◌, ◌≤◌, arith}
use Rattle.wy_kernel.specs.Parts.{program_of}
use Rattle.wy_telling.proofs.Answering.{rises_up, why_told}
use Rattle.wy_telling.proofs.why.event_lines.Goals as goal

pub answer_lines-requires : goal.answer_lines-requires
answer_lines-requires g c =
    let count = (g.V.EventView.tells c.why.new.view).count in
    let there : c.args.event + 1 ≤ count = omega (arith, c.requires.there, c.why.ensures.keeps.count) in
    record { there = rises_up 0 (c.args.event + 1) count c.in_ok-answer.answer.all.items there c.in_ok-answer.ensures.rises.0 }

pub returns-clause-lines : goal.returns-clause-lines
returns-clause-lines g c = λ rs is.
    let o = c.args.opened.now in
    let answer = c.in_ok-answer.answer in
    let found = c.in_ok-answer.ensures in
    why_told (program_of o.program.now) o.program.now.lines.items rs c.args.event o.index answer.all.items answer.flow.items c.answer_lines.result c.requires.opened.owners (found.all rs is) (found.flow rs is)
    (c.answer_lines.ensures.lines rs (c.why.ensures.keeps.records ∙ is))
