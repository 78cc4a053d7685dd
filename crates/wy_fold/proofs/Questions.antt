-- The event of a text, or why it has none.
use Rattle.std.proofs.Common.{ℕ, List, Result, Ok, Err}
use Rattle.wy_kernel.specs.Program.{Program}
use Rattle.wy_event.specs.Record.{Recorded}
use Rattle.wy_ask.specs.declared.question.AskError.{AskError}
use Rattle.wy_ask.specs.declared.question.AskError.TheVariants as errors
use Rattle.wy_ask.specs.Asked.{Resolves, event_of, number_in}
use Rattle.wy_ask.specs.Questions.{Asked, Asks, IsUnread}
use Rattle.wy_fold.specs.Asked.{FindsAsked}

pub found : (p : Program) (rs : List Recorded) (text : List ℕ) (q : Asked) (r : Result ℕ AskError) → Asks text q → Resolves r (event_of p rs q) (number_in q) → FindsAsked p rs text r
found p rs text q (Ok event) asks is = (q, asks, is)
found p rs text q (Err (errors.NoSuch n)) asks is = (q, asks, is.0, is.1)
found p rs text q (Err errors.BadQuestion) asks is = absurd is
found p rs text q (Err errors.NoMemory) asks is = tt

pub unread : (p : Program) (rs : List Recorded) (text : List ℕ) (e : AskError) → IsUnread text e → FindsAsked p rs text (Err e)
unread p rs text errors.BadQuestion none = none
unread p rs text (errors.NoSuch n) none = absurd none
unread p rs text errors.NoMemory none = tt
