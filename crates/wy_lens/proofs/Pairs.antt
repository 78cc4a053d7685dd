-- What is told of two traces, by what was found of them.
use Rattle.std.proofs.Common.{◌≡◌, ◌≢◌, ◌∙◌, sym, ap, subst, refl, inl, inr, ℕ, List, Option, Some, Result, Ok, Err, IfOk, ⊎_elim}
use Rattle.std.specs.declared.alloc.AllocError.{AllocError}
use Rattle.wy_lens.specs.Answers.{IsPairAnswer, SpeaksOfNoFile}
use Rattle.wy_lens.specs.Pairs.{Compares, DueForPair, IsCompared, IsDiffOf, IsExpected, AreOfOneSource}
use Rattle.wy_lens.specs.Pairs as pair
use Rattle.wy_lens.specs.Replies.{IsUnopenedAs}
use Rattle.wy_lens.specs.Statuses.{code_of}
use Rattle.wy_lens.specs.Texts.{other_source_line}
use Rattle.wy_lens.specs.declared.answer.Answer.{Answer}
use Rattle.wy_lens.specs.declared.status.Status.TheVariants.{Done, Question, Trace}
use Rattle.wy_lens.specs.declared.words.Beside.{Beside}
use Rattle.wy_lens.specs.declared.words.Beside.TheVariants.{Run, Output}
use Rattle.wy_lens.proofs.Sources.{done_quiet, quiet}
use Rattle.wy_program.specs.Openings.{IsUnopenedFor, Opens}
use Rattle.wy_program.specs.declared.opening.OpenTrace.{OpenTrace}
use Rattle.wy_program.specs.declared.opening.OpeningError.{OpeningError}

trace_quiet : (answer : Answer) → answer.status ≡ Trace → SpeaksOfNoFile answer
trace_quiet answer is = quiet answer Trace is (λ e. cc) (λ e. cc) (λ e. cc) (λ e. cc)

pub first_lacks : (beside : Beside) (good bad name : List ℕ) (e : OpeningError) (r : Result Answer AllocError) → IsUnopenedFor good e → IfOk r (IsUnopenedAs e)
    → IfOk r (IsPairAnswer beside good bad name)
first_lacks beside good bad name e (Ok a) why says = (trace_quiet a says.0, rw says.0 (pair.first_unopened beside e a.text.items why says.1))
first_lacks beside good bad name e (Err x) why says = tt

pub second_lacks : (good bad name : List ℕ) (o : OpenTrace) (e : OpeningError) (r : Result Answer AllocError) → Opens good o → IsUnopenedFor bad e → IfOk r (IsUnopenedAs e)
    → IfOk r (IsPairAnswer Run good bad name)
second_lacks good bad name o e (Ok a) opens why says = (trace_quiet a says.0, rw says.0 (pair.second_unopened o e a.text.items opens why says.1))
second_lacks good bad name o e (Err x) opens why says = tt

pub both_open : (good bad name : List ℕ) (o q : OpenTrace) (r : Result Answer AllocError) → Opens good o → Opens bad q → IfOk r (IsCompared o q name) → IfOk r (IsPairAnswer Run good bad name)
both_open good bad name o q (Ok a) opens opens_too is = (
  ⊎_elim (λ (done : a.status ≡ Done). done_quiet a done) (λ (other : a.status ≡ Question). quiet a Question other (λ e. cc) (λ e. cc) (λ e. cc) (λ e. cc)) is.0,
  pair.compared o q (code_of a.status) a.text.items opens opens_too is.1,
)
both_open good bad name o q (Err x) opens opens_too is = tt

pub other_sources : (o q : OpenTrace) (name : List ℕ) (r : Result Answer AllocError) → ¬ AreOfOneSource o q → IfOk r (λ a. (a.status ≡ Question) × (a.text.items ≡ other_source_line)) → IfOk r (IsCompared o q name)
other_sources o q name (Ok a) apart says = (inr says.0, rw (says.0, says.1) (pair.other apart))
other_sources o q name (Err x) apart says = tt

pub one_source : (o q : OpenTrace) (name : List ℕ) (a : Answer) → AreOfOneSource o q → a.status ≡ Done → IsDiffOf o q name a.text.items → IsCompared o q name a
one_source o q name a same done is = (inl done, rw done (pair.parted a.text.items same is))

pub as_expected : (bytes file name : List ℕ) (o : OpenTrace) (r : Result Answer AllocError) → Opens bytes o → IfOk r (IsExpected o file) → IfOk r (IsPairAnswer Output bytes file name)
as_expected bytes file name o (Ok a) opens is = (done_quiet a is.0, rw is.0 (pair.expected o a.text.items opens is.1))
as_expected bytes file name o (Err x) opens is = tt
