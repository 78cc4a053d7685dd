-- Answers of one status and one text.
use Rattle.std.proofs.Common.{◌≡◌, ◌≢◌, ◌∙◌, sym, refl, inl, inr, ℕ, List, Result, Ok, Err, IfOk, Option, Some}
use Rattle.std.specs.declared.alloc.AllocError.{AllocError}
use Rattle.wy_lens.specs.Answers.{Answers, HasCause, IsAnswer, IsFileAnswer, Knows}
use Rattle.wy_lens.specs.Due.{Due, DueForFiles, DueForSource, DueForTrace}
use Rattle.wy_lens.specs.Due as due
use Rattle.wy_lens.specs.Statuses.{code_of}
use Rattle.wy_lens.specs.declared.words.Beside.{Beside}
use Rattle.wy_lens.specs.Words.{AskNothing, Asks, Compare, Explain, Tell, Telling}
use Rattle.wy_lens.specs.declared.answer.Answer.{Answer}
use Rattle.wy_lens.specs.declared.status.Status.{Status}
use Rattle.wy_lens.specs.declared.status.Status.TheVariants.{Absent, Fault, TooLong, Usage}
use Rattle.wy_outside.specs.Counts.{Rose}
use Rattle.wy_outside.specs.Shelf.{Files}

abbrev pub Says : Status → List ℕ → Answer → Type 0
Says status text answer = (answer.status ≡ status) × (answer.text.items ≡ text)

-- what is due is said, and nothing failed
said : (by : ℕ → List ℕ → Type 0) (s : Status) (t : List ℕ) (n m : ℕ) (r : Result Answer AllocError) → s ≢ Fault → by (code_of s) t → m ≡ n
    → IfOk r (Says s t) → IfOk r (Answers by n m)
said by s t n m (Ok a) other is same says = inr (same, (λ e. other (sym says.0 ∙ e)), rw (says.0, says.1) is)
said by s t n m (Err e) other is same says = tt

pub said_of_file : (by : Files → ℕ → List ℕ → Type 0) (held : Option Files) (s : Status) (t : List ℕ) (n m : ℕ) (r : Result Answer AllocError) → s ≢ Fault
    → ((files : Files) → held ≡ Some files → by files (code_of s) t) → m ≡ n → IfOk r (Says s t) → IfOk r (IsFileAnswer by held n m)
said_of_file by held s t n m r other is same says =
    said (λ status text. (files : Files) → held ≡ Some files → by files status text) s t n m r other is same says

pub said_due : (words : List (List ℕ)) (held : Option Files) (s : Status) (t : List ℕ) (n : ℕ) (r : Result Answer AllocError) → s ≢ Fault → Due words held (code_of s) t
    → IfOk r (Says s t) → IfOk r (IsAnswer words held n n)
said_due words held s t n r other is says = said (λ status text. Knows words held → Due words held status text) s t n n r other (λ _. is) refl says

pub said_causes : (s : Status) (t : List ℕ) (a b c d : ℕ) (r : Result Answer AllocError) → (s ≡ Absent → Rose a b) → (s ≡ TooLong → Rose c d)
    → IfOk r (Says s t) → IfOk r (HasCause a b c d)
said_causes s t a b c d (Ok x) absent long says = ((λ e. absent (sym says.0 ∙ e)), (λ e. long (sym says.0 ∙ e)))
said_causes s t a b c d (Err e) absent long says = tt

pub said_asked : (s : Status) (t : List ℕ) (r : Result Answer AllocError) → s ≢ Usage → IfOk r (Says s t) → IfOk r (λ x. x.status ≢ Usage)
said_asked s t (Ok x) other says = λ e. other (sym says.0 ∙ e)
said_asked s t (Err e) other says = tt

-- ---- what is due for the words

pub known_source : (words : List (List ℕ)) (held : Option Files) (name : List ℕ) → Asks words (Explain name) → (status : ℕ) (text : List ℕ)
    → ((files : Files) → held ≡ Some files → DueForSource files name status text) → Knows words held → Due words held status text
known_source words held name asks status text by (inl none) = absurd (none.source name asks)
known_source words held name asks status text by (inr (files, is)) = due.explained name files status text asks is (by files is)

pub known_trace : (words : List (List ℕ)) (held : Option Files) (name : List ℕ) (telling : Telling) → Asks words (Tell name telling) → (status : ℕ) (text : List ℕ)
    → ((files : Files) → held ≡ Some files → DueForTrace files name telling status text) → Knows words held → Due words held status text
known_trace words held name telling asks status text by (inl none) = absurd (none.trace name telling asks)
known_trace words held name telling asks status text by (inr (files, is)) = due.told name telling files status text asks is (by files is)

pub known_pair : (words : List (List ℕ)) (held : Option Files) (beside : Beside) (trace other : List ℕ) → Asks words (Compare beside trace other) → (status : ℕ) (text : List ℕ)
    → ((files : Files) → held ≡ Some files → DueForFiles beside files trace other status text) → Knows words held → Due words held status text
known_pair words held beside trace other asks status text by (inl none) = absurd (none.pair beside trace other asks)
known_pair words held beside trace other asks status text by (inr (files, is)) = due.compared beside trace other files status text asks is (by files is)

pub file_answers : (words : List (List ℕ)) (held : Option Files) (by : Files → ℕ → List ℕ → Type 0) (n m : ℕ) (r : Result Answer AllocError)
    → ((status : ℕ) (text : List ℕ) → ((files : Files) → held ≡ Some files → by files status text) → Knows words held → Due words held status text)
    → IfOk r (IsFileAnswer by held n m) → IfOk r (IsAnswer words held n m)
file_answers words held by n m (Ok a) known (inl fault) = inl fault
file_answers words held by n m (Ok a) known (inr (same, other, is)) = inr (same, other, known (code_of a.status) a.text.items is)
file_answers words held by n m (Err e) known is = tt

pub never_usage : (words : List (List ℕ)) (r : Result Answer AllocError) → IfOk r (λ x. x.status ≢ Usage) → IfOk r (λ x. x.status ≡ Usage → AskNothing words)
never_usage words (Ok x) other = λ e. absurd (other e)
never_usage words (Err e) other = tt

pub said_usage : (words : List (List ℕ)) (r : Result Answer AllocError) → AskNothing words → IfOk r (λ x. x.status ≡ Usage → AskNothing words)
said_usage words (Ok x) none = λ e. none
said_usage words (Err e) none = tt
