-- What is asked, in memory, as contracts see it.
use Rattle.std.specs.Borrow.{Bor}
use Rattle.std.specs.Prelude.{ℕ, List, [], ◌∷◌, option_map}
use Rattle.wy_words.specs.Words as words
use Rattle.wy_words.specs.Reading as reading
use Rattle.wy_words.specs.Awaited as awaited
use Rattle.wy_words.specs.declared.asking.Operands.{Operands}
use Rattle.wy_words.specs.declared.asking.Operands.TheVariants.{Nothing, One, Two, Three}
use Rattle.wy_words.specs.declared.asking.Asking.{Asking}
use Rattle.wy_words.specs.declared.commands.Asked.{Asked}
use Rattle.wy_words.specs.declared.commands.Command.{Command}
use Rattle.wy_words.specs.declared.commands.Command.TheVariants.{Once, Explore}
use Rattle.wy_words.specs.declared.commands.Request.{Request}
use Rattle.wy_words.specs.declared.commands.Request.TheVariants.{Run, Record, Output, Why, WhyNot, Affects, Certify, Check, Scope, Questions, Audit, Migrate, Gen}

abbrev pub operands_of : Operands → List (List ℕ)
operands_of Nothing = []
operands_of (One word) = word.now ∷ []
operands_of (Two first second) = first.now ∷ (second.now ∷ [])
operands_of (Three first second third) = first.now ∷ (second.now ∷ (third.now ∷ []))

abbrev pub pair_of : Bor (List ℕ) × Bor (List ℕ) → List ℕ × List ℕ
pair_of x = (x.0.now, x.1.now)

abbrev pub triple_of : Bor (List ℕ) × Bor (List ℕ) × Bor (List ℕ) → List ℕ × List ℕ × List ℕ
triple_of x = (x.0.now, x.1.now, x.2.now)

abbrev pub asking_of : Asking → reading.Asking
asking_of a = record {
  awaited = awaited.Word;
  operands = operands_of a.operands;
  input = option_map (λ s. s.now) a.input;
  trace = option_map (λ s. s.now) a.trace;
  steps = a.steps;
}

abbrev pub asked_of : Asked → words.Asked
asked_of a = record { source = a.source.now; input = option_map (λ s. s.now) a.input; steps = a.steps }

abbrev pub request_of : Request → words.Command
request_of (Run asked) = words.Run (asked_of asked)
request_of (Record asked trace) = words.Record (asked_of asked) trace.now
request_of (Output trace) = words.Output trace.now
request_of (Why trace question) = words.Why trace.now question.now
request_of (WhyNot trace statement) = words.WhyNot trace.now statement.now
request_of (Affects trace question) = words.Affects trace.now question.now
request_of (Certify trace question) = words.Certify trace.now question.now
request_of (Check trace certificate) = words.Check trace.now certificate.now
request_of (Scope trace statement call) = words.Scope trace.now statement.now call
request_of (Questions trace) = words.Questions trace.now
request_of (Audit trace) = words.Audit trace.now
request_of (Migrate trace name) = words.Migrate trace.now name.now
request_of (Gen number) = words.Gen number

abbrev pub command_of : Command → words.Command
command_of (Once request) = request_of request
command_of (Explore trace) = words.Explore trace.now
