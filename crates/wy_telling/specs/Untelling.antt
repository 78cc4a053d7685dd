-- Why nothing is told of a text that is put to a trace, whether or not the records of the trace are told.
use Rattle.std.specs.Prelude.{◌≡◌, ℕ, List, Some, Result, Ok, Err}
use Rattle.std.specs.Prelude.{None as Absent}
use Rattle.wy_kernel.specs.Program.{Program}
use Rattle.wy_event.specs.Record.{Recorded}
use Rattle.wy_view.specs.View.{RefusedFor, Told}
use Rattle.wy_view.specs.declared.view.ViewError.TheVariants.{NoMemory}
use Rattle.wy_ask.specs.declared.question.AskError.{AskError}
use Rattle.wy_ask.specs.declared.question.AskError.TheVariants as errors
use Rattle.wy_ask.specs.Asked.{event_of, number_in}
use Rattle.wy_ask.specs.Questions.{Asked, Asks, Spells}
use Rattle.wy_telling.specs.declared.untold.Untold.{Untold}
use Rattle.wy_telling.specs.declared.untold.Untold.TheVariants.{BadQuestion, NoSuch, View}

-- a refusal of a question, for one who tells
abbrev pub as_untold : AskError → Untold
as_untold errors.BadQuestion = BadQuestion
as_untold (errors.NoSuch n) = NoSuch n
as_untold errors.NoMemory = View NoMemory

-- the text asks a question that names this number
abbrev pub AsksAbout : List ℕ → ℕ → Type 0
AsksAbout text n = (q : Asked) × Asks text q × (n ≡ number_in q)

-- each refusal of a text has its cause, and only a refusal of the view is a fault
abbrev pub HasCause : {X : Type 0} → List ℕ → Result X Untold → Told → Told → Type 0
HasCause text (Ok x) old new = new.faults ≡ old.faults
HasCause text (Err BadQuestion) old new = ((q : Asked) → ¬ Spells q text) × (new.faults ≡ old.faults)
HasCause text (Err (NoSuch n)) old new = AsksAbout text n × (new.faults ≡ old.faults)
HasCause text (Err (View error)) old new = RefusedFor error old new

-- this event is what a text asks about in these records, or the text is refused; a view can refuse, and memory run out,
-- at any text
abbrev pub FindsAsked : Program → List Recorded → List ℕ → Result ℕ Untold → Type 0
FindsAsked p rs text (Ok event) = (q : Asked) × Asks text q × (event_of p rs q ≡ Some event)
FindsAsked p rs text (Err BadQuestion) = (q : Asked) → ¬ Spells q text
FindsAsked p rs text (Err (NoSuch n)) =
    (q : Asked) × Asks text q × (event_of p rs q ≡ Absent) × (n ≡ number_in q)
FindsAsked p rs text (Err (View error)) = Unit {0}
