use Rattle.std.proofs.Common.{◌++◌, ap, ◌∙◌}
use Rattle.wy_kernel.specs.View.{present}
use Rattle.wy_kernel.specs.Parts.{program_of}
use Rattle.wy_text.proofs.Looks.{frame_told}
use Rattle.wy_text.proofs.frame.put_frame_line.Goals as goal

pub returns-clause-line : goal.returns-clause-line
returns-clause-line g c = λ rs is.
    let begun = c.in_ok-begun.begun in
    let (e, at, kind, entity) = c.in_ok-begun.ensures.entity rs is in
    c.in_ok-put_begun.ensures ∙ ap (λ l. c.args.out.now.items ++ l) (frame_told (program_of c.args.program.now) rs c.args.call e begun.kind (present begun.entity) at kind entity)
