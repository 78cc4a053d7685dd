-- What an event comes from, line by line.
use Rattle.std.specs.Prelude.{ℕ, List, Result}
use Rattle.wy_kernel.specs.Program.{Program}
use Rattle.wy_event.specs.Record.{Recorded}
use Rattle.wy_event.specs.Sources.{closure, data_closure}
use Rattle.wy_why.specs.Answer.{up_to}
use Rattle.wy_ask.specs.Asked.{owners}
use Rattle.wy_telling.specs.Answers.{AnswerIs, Refused, marked_lines}

-- the lines of all that an event comes from, with a star on what it comes from by data
unfoldable pub why_text : Program → List ℕ → List Recorded → ℕ → List ℕ
why_text p lines rs event =
    marked_lines p lines rs (data_closure (owners p) rs event) (up_to event (closure (owners p) rs event))

-- the answer to why
abbrev pub WhyIs : Program → List ℕ → List Recorded → List ℕ → Result (List ℕ) Refused → Type 0
WhyIs = AnswerIs why_text
