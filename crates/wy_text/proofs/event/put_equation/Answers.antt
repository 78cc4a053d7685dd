use Rattle.std.proofs.Common.{◌∙◌, refl}
use Rattle.std.specs.Prelude.{codes}
use Rattle.wy_kernel.specs.Parts.{program_of}
use Rattle.wy_text.specs.EventLines.{equation}
use Rattle.wy_text.specs.Places.{slot_text}
use Rattle.wy_text.specs.Values.{value_text}
use Rattle.wy_text.proofs.Leading.{three_parts}
use Rattle.wy_text.proofs.event.put_equation.Goals as goal

pub returns-clause-equation : goal.returns-clause-equation
unfolding equation
returns-clause-equation g c = λ rs is.
    let p = program_of c.args.program.now in
    let place = slot_text p rs c.args.facts.slot in
    three_parts c.args.out.now.items c.put_slot.new.out.items c.extend_from_slice.new.self.items c.put_value.new.out.items place c.as_bytes.result.now place (codes " = ") (value_text p rs c.args.facts.value)
    refl c.as_bytes.ensures.value (c.in_ok-put_slot.ensures.text rs is) c.in_ok-extend_from_slice.ensures.items (c.in_ok-put_value.ensures.text rs (c.put_slot.ensures.keeps.records ∙ is))
