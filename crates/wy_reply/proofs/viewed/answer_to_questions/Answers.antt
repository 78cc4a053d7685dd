use Rattle.std.specs.Prelude.{map}
use Rattle.wy_event.specs.Record.{recorded}
use Rattle.wy_reply.specs.Tellings.{questions}
use Rattle.wy_reply.proofs.viewed.answer_to_questions.Goals as goal

pub returns-clause-due : goal.returns-clause-due
returns-clause-due g c = λ seal t is.
    rw (c.done.ensures.status, c.done.ensures.text, c.in_ok-questions_text.ensures.lines (map recorded t.events) is.records, is.covers) questions
