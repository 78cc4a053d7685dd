use Rattle.std.proofs.Common.{◌++◌, sym, ap, ◌∙◌}
use Rattle.wy_kernel.specs.View.{present}
use Rattle.wy_kernel.specs.Parts.{program_of}
use Rattle.wy_text.specs.Places.{slot_text}
use Rattle.wy_text.proofs.Looks.{local_read}
use Rattle.wy_text.proofs.slot.put_slot.Goals as goal

pub returns-in_ok-extend_from_slice-in-Local-clause-text : goal.returns-in_ok-extend_from_slice-in-Local-clause-text
returns-in_ok-extend_from_slice-in-Local-clause-text g c = λ rs is.
    let p = program_of c.args.program.now in
    let begun = c.in_ok-begun-in-Local.begun in
    let (e, at, kind, entity) = c.in_ok-begun-in-Local.ensures.entity rs is in
    let read = local_read p rs c.in-Local.frame c.in-Local.index e begun.kind (present begun.entity) at kind entity in
    c.in_ok-extend_from_slice-in-Local.ensures.items ∙ ap (λ l. c.args.out.now.items ++ l) (c.as_bytes.ensures.value ∙ c.local_name.ensures ∙ read ∙ sym (ap (slot_text p rs) c.in-Local.is))
