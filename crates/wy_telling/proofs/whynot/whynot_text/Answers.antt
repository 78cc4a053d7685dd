use Rattle.wy_kernel.specs.Parts.{program_of}
use Rattle.wy_telling.specs.Whynot.{not_read, not_there}
use Rattle.wy_telling.proofs.Named.{told_of}
use Rattle.wy_telling.proofs.whynot.whynot_text.Goals as goal

pub returns-in_ok-links-in-Ok : goal.returns-in_ok-links-in-Ok
returns-in_ok-links-in-Ok g c = λ rs is.
    let o = c.args.opened.now in
    told_of (program_of o.program.now) o.program.now.lines.items rs o.coverage.now c.args.word.now c.in-Ok.named c.whynot_lines.result
    c.in-Ok.ensures (c.whynot_lines.ensures rs is)

pub returns-in-Err-BadQuestion : goal.returns-in-Err-BadQuestion
returns-in-Err-BadQuestion g c = λ rs is. not_read (rw (c.in-Err-BadQuestion.field-0-is) at c.in-Err-BadQuestion.ensures)

pub returns-in-Err-NoSuch : goal.returns-in-Err-NoSuch
returns-in-Err-NoSuch g c = λ rs is.
    let found = (rw (c.in-Err-NoSuch.field-0-is) at c.in-Err-NoSuch.ensures) in
    rw (c.in-Err-NoSuch.field-0-is) (not_there c.in-Err-NoSuch.line found.0 found.1 found.2)
