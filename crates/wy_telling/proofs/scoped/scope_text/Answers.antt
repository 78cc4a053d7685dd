use Rattle.wy_kernel.specs.Parts.{program_of}
use Rattle.wy_telling.specs.Scoped.{not_read, not_there}
use Rattle.wy_telling.proofs.NamedIn.{told_in}
use Rattle.wy_telling.proofs.scoped.scope_text.Goals as goal

pub returns-in-Ok-clause-told : goal.returns-in-Ok-clause-told
returns-in-Ok-clause-told g c = λ rs is.
    let o = c.args.opened.now in
    told_in (program_of o.program.now) o.program.now.lines.items rs c.args.word.now c.args.call c.in-Ok.named c.scope_lines.result
    c.in-Ok.ensures (c.scope_lines.ensures.told rs is)

pub returns-in-Err-BadQuestion-clause-told : goal.returns-in-Err-BadQuestion-clause-told
returns-in-Err-BadQuestion-clause-told g c = λ rs is. not_read (rw (c.in-Err-BadQuestion.field-0-is) at c.in-Err-BadQuestion.ensures)

pub returns-in-Err-NoSuch-clause-told : goal.returns-in-Err-NoSuch-clause-told
returns-in-Err-NoSuch-clause-told g c = λ rs is.
    let found = (rw (c.in-Err-NoSuch.field-0-is) at c.in-Err-NoSuch.ensures) in
    rw (c.in-Err-NoSuch.field-0-is) (not_there c.in-Err-NoSuch.line found.0 found.1 found.2)
