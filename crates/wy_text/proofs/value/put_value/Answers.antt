use Rattle.std.proofs.Common.{◌++◌, sym, ap, ◌∙◌}
use Rattle.wy_kernel.specs.View.{present}
use Rattle.wy_kernel.specs.Parts.{program_of}
use Rattle.wy_text.specs.Values.{value_text}
use Rattle.wy_text.proofs.Looks.{object_read}
use Rattle.wy_text.proofs.value.put_value.Goals as goal

pub returns-in_ok-put_object-in-Object-clause-text : goal.returns-in_ok-put_object-in-Object-clause-text
returns-in_ok-put_object-in-Object-clause-text g c = λ rs is.
    let p = program_of c.args.program.now in
    let (e, at, kind, entity) = c.in_ok-made-in-Object.ensures.entity rs is in
    c.in_ok-put_object-in-Object.ensures ∙ ap (λ l. c.args.out.now.items ++ l) (object_read p rs c.in-Object.number e (present c.in_ok-made-in-Object.made.entity) at entity ∙ sym (ap (value_text p rs) c.in-Object.is))
