use Rattle.std.specs.Prelude.{map}
use Rattle.wy_event.specs.Record.{recorded}
use Rattle.wy_reply.specs.Tellings.{output}
use Rattle.wy_reply.proofs.viewed.answer_to_output.Goals as goal

pub returns-clause-due : goal.returns-clause-due
returns-clause-due g c = λ seal t is ends.
    rw (c.done.ensures.status, c.done.ensures.text, c.in_ok-output_text.ensures.text (map recorded t.events) is, ends) output
