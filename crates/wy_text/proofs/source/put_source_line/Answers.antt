use Rattle.std.proofs.Common.{◌∙◌, false}
use Rattle.std.specs.Prelude.{codes}
use Rattle.wy_kernel.specs.Parts.{program_of}
use Rattle.wy_why.specs.Sources.{role_of}
use Rattle.wy_text.specs.EventLines.{event_line}
use Rattle.wy_text.specs.Sources.{role_word, source_line}
use Rattle.wy_text.proofs.Leading.{three_parts}
use Rattle.wy_text.proofs.source.put_source_line.Goals as goal

pub returns-clause-line : goal.returns-clause-line
unfolding source_line
returns-clause-line g c = λ rs is.
    three_parts c.args.out.now.items c.extend_from_slice.new.self.items c.extend_from_slice-2.new.self.items c.put_event_line.new.out.items c.as_bytes.result.now c.as_bytes-2.result.now
    (role_word (role_of c.args.source.now.role)) (codes " ") (event_line (program_of c.args.program.now) c.args.program.now.lines.items rs c.args.source.now.event false)
    (c.as_bytes.ensures.value ∙ c.role_word.ensures) c.as_bytes-2.ensures.value c.in_ok-extend_from_slice.ensures.items c.in_ok-extend_from_slice-2.ensures.items (c.in_ok-put_event_line.ensures.line rs is)
