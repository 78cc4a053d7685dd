-- The event that a text asks about.
use Rattle.std.specs.Prelude.{◌≡◌, ℕ, List, Some, Result, Ok, Err}
use Rattle.std.specs.Prelude.{None as Absent}
use Rattle.wy_kernel.specs.Program.{Program}
use Rattle.wy_event.specs.Record.{Recorded}
use Rattle.wy_ask.specs.declared.question.AskError.{AskError}
use Rattle.wy_ask.specs.declared.question.AskError.TheVariants as errors
use Rattle.wy_ask.specs.Asked.{event_of, number_in}
use Rattle.wy_ask.specs.Questions.{Asked, Asks, Spells}

-- this event is what a text asks about, or the text is refused; memory can run out at any text
abbrev pub FindsAsked : Program → List Recorded → List ℕ → Result ℕ AskError → Type 0
FindsAsked p rs text (Ok event) = (q : Asked) × Asks text q × (event_of p rs q ≡ Some event)
FindsAsked p rs text (Err (errors.NoSuch n)) = (q : Asked) × Asks text q × (event_of p rs q ≡ Absent) × (n ≡ number_in q)
FindsAsked p rs text (Err errors.BadQuestion) = (q : Asked) → ¬ Spells q text
FindsAsked p rs text (Err errors.NoMemory) = Unit {0}
