-- What is told of a trace, in memory.
use Rattle.std.specs.Prelude.{◌≡◌, ◌≢◌, ℕ, List}
use Rattle.wy_ask.specs.declared.question.AskError.{AskError}
use Rattle.wy_ask.specs.declared.question.AskError.TheVariants.{BadQuestion, NoSuch, NoMemory}
use Rattle.wy_reply.specs.Lines.{not_read_line, no_such_line}
use Rattle.wy_program.specs.declared.opening.OpeningError.{OpeningError}
use Rattle.wy_lens.specs.Answers.{SpeaksOfNoFile}
use Rattle.wy_lens.specs.Statuses.{code_of}
use Rattle.wy_lens.specs.Traces.{IsUnopenedLine, Told}
use Rattle.wy_lens.specs.declared.answer.Answer.{Answer}
use Rattle.wy_lens.specs.declared.status.Status.TheVariants.{Question, Trace}

-- the answer is what is told
abbrev pub IsTold : Told → Answer → Type 0
IsTold told answer = SpeaksOfNoFile answer × told (code_of answer.status) answer.text.items

-- a question with this line has no answer
abbrev pub Denies : List ℕ → Answer → Type 0
Denies line answer = (answer.status ≡ Question) × (answer.text.items ≡ line)

-- why a question names no event; want of memory has no answer
abbrev pub NamesNoEvent : AskError → Answer → Type 0
NamesNoEvent BadQuestion answer = Denies not_read_line answer
NamesNoEvent (NoSuch n) answer = Denies (no_such_line n) answer
NamesNoEvent NoMemory answer = ⊥

-- why bytes can't be opened
abbrev pub IsUnopenedAs : OpeningError → Answer → Type 0
IsUnopenedAs e answer = (answer.status ≡ Trace) × IsUnopenedLine e answer.text.items
