use Rattle.std.proofs.Common.{◌∙◌}
use Rattle.wy_kernel.specs.Parts.{program_of}
use Rattle.wy_text.specs.FrameLines.{local_line, local_text}
use Rattle.wy_text.specs.Values.{value_text}
use Rattle.wy_text.proofs.Leading.{held_line}
use Rattle.wy_text.proofs.frame.put_local_line.Goals as goal

pub returns-clause-line : goal.returns-clause-line
unfolding local_line
returns-clause-line g c = λ rs is.
    let p = program_of c.args.program.now in
    held_line (local_text p rs c.args.call c.args.index) (value_text p rs c.args.value) c.args.out.now.items
    c.extend_from_slice.new.self.items c.put_local.new.out.items c.extend_from_slice-2.new.self.items c.put_value.new.out.items c.extend_from_slice-3.new.self.items
    c.as_bytes.result.now c.as_bytes-2.result.now c.as_bytes-3.result.now c.as_bytes.ensures.value c.as_bytes-2.ensures.value c.as_bytes-3.ensures.value
    c.in_ok-extend_from_slice.ensures.items (c.in_ok-put_local.ensures.text rs is) c.in_ok-extend_from_slice-2.ensures.items
    (c.in_ok-put_value.ensures.text rs (c.put_local.ensures.keeps.records ∙ is)) c.in_ok-extend_from_slice-3.ensures.items
