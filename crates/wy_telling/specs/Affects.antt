-- What comes from an event, line by line.
use Rattle.std.specs.Prelude.{ℕ, List, [], ◌∷◌, Result, codes}
use Rattle.wy_kernel.specs.Program.{Program}
use Rattle.wy_event.specs.Numbers.{Numbers}
use Rattle.wy_event.specs.Record.{Recorded}
use Rattle.wy_event.specs.Sources.{data_closure}
use Rattle.wy_affects.specs.Affected.{affected}
use Rattle.wy_ask.specs.Asked.{owners}
use Rattle.wy_text.specs.EndLines.{line_of}
use Rattle.wy_telling.specs.Answers.{AnswerIs, Refused, marked_lines}

unfoldable pub nothing_later_line : List ℕ
nothing_later_line = line_of (codes "nothing later")

-- the lines of later events, with a star on those of a set, or that there are none
abbrev pub later_lines : Program → List ℕ → List Recorded → Numbers → List ℕ → List ℕ
later_lines p lines rs by_data [] = nothing_later_line
later_lines p lines rs by_data (n ∷ events) = marked_lines p lines rs by_data (n ∷ events)

-- the lines of all that comes from an event, with a star on what comes from it by data
unfoldable pub affects_text : Program → List ℕ → List Recorded → ℕ → List ℕ
affects_text p lines rs event =
    later_lines p lines rs (λ n. data_closure (owners p) rs n event) (affected (owners p) rs event)

-- the answer to what an event affects
abbrev pub AffectsIs : Program → List ℕ → List Recorded → List ℕ → Result (List ℕ) Refused → Type 0
AffectsIs = AnswerIs affects_text
