use Rattle.std.proofs.Common.{◌∙◌, ◌++◌, ◌-◌, ap, take}
use Rattle.wy_kernel.specs.Parts.{program_of}
use Rattle.wy_text.specs.EventLines.{event_line}
use Rattle.wy_fold.specs.Rows.{without_end}
use Rattle.wy_fold.proofs.row.event_text.Goals as goal

pub returns-clause-text : goal.returns-clause-text
returns-clause-text g c = λ rs is.
    let line = event_line (program_of c.args.program.now) c.args.program.now.lines.items rs c.args.event c.args.marked in
    let put = c.put_event_line.new.out in
    c.pop.ensures.rest ∙ ap (λ n. take (n - 1) put.items) put.ok.0
    ∙ ap without_end (c.in_ok-put_event_line.ensures.line rs is ∙ ap (λ l. l ++ line) c.new-text.ensures.items)
