-- A text asks one question, which names one event or none.
use Rattle.std.proofs.Common.{◌≡◌, ◌∙◌, refl, sym, ap, ℕ, List, Some, Result, Ok, Err}
use Rattle.std.specs.Prelude.{None as Absent}
use Rattle.std.proofs.lemmas.Option.{none-some, same_Some}
use Rattle.wy_kernel.specs.Program.{Program}
use Rattle.wy_event.specs.Record.{Recorded}
use Rattle.wy_ask.specs.Asked.{event_of, number_in}
use Rattle.wy_ask.specs.Questions.{Asked, Asks}
use Rattle.wy_telling.specs.Answers.{AnswerIs, NoSuch, Refused, Telling, answered, not_read, not_there}
use Rattle.wy_telling.proofs.laws.one_answer_to_questions.Goals as goal

module _ (telling : Telling) (p : Program) (lines : List ℕ) (rs : List Recorded) (question : List ℕ) where
  one_event : (q r : Asked) (e f : ℕ) → Asks question q → Asks question r → event_of p rs q ≡ Some e → event_of p rs r ≡ Some f → e ≡ f
  one_event q r e f first second at there = same_Some e f (sym at ∙ ap (event_of p rs) (second.only q first.spelled) ∙ there)

  there_or_not : (q r : Asked) (e : ℕ) → Asks question q → Asks question r → event_of p rs q ≡ Some e → event_of p rs r ≡ Absent → ⊥
  there_or_not q r e first second at none = none-some e (sym none ∙ ap (event_of p rs) (first.only r second.spelled) ∙ at)

  one_answer : (a b : Result (List ℕ) Refused) → AnswerIs telling p lines rs question a → AnswerIs telling p lines rs question b → a ≡ b
  one_answer _ _ (answered q e asks at) (answered r f also there) = ap (λ n. Ok (telling p lines rs n)) (one_event q r e f asks also at there)
  one_answer _ _ (answered q e asks at) (not_there r also none) = absurd (there_or_not q r e asks also at none)
  one_answer _ _ (answered q e asks at) (not_read none) = absurd (none q asks.spelled)
  one_answer _ _ (not_there q asks none) (answered r f also there) = absurd (there_or_not r q f also asks there none)
  one_answer _ _ (not_there q asks none) (not_there r also absent) = ap (λ k. Err (NoSuch (number_in k))) (also.only q asks.spelled)
  one_answer _ _ (not_there q asks none) (not_read unread) = absurd (unread q asks.spelled)
  one_answer _ _ (not_read none) (answered r f also there) = absurd (none r also.spelled)
  one_answer _ _ (not_read none) (not_there r also absent) = absurd (none r also.spelled)
  one_answer _ _ (not_read none) (not_read unread) = refl

pub returns : goal.returns
returns c = λ telling p lines rs question a b first second. one_answer telling p lines rs question a b first second
