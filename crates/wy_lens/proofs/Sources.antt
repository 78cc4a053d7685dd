-- What is due for a source and for a file, by what was found of it.
use Rattle.std.proofs.Common.{◌≡◌, ◌≢◌, ◌∙◌, sym, ap, subst, refl, inl, inr, ℕ, ◌+◌, ◌<◌, ◌≤◌, List, length, take, true, false, Option, Some, None, Result, Ok, Err, IfOk, Vec, Global, arith, vec_len, min}
use Rattle.std.specs.Prelude.{MatchBool, option_map}
use Rattle.std.specs.declared.alloc.AllocError.{AllocError}
use Rattle.std.proofs.lemmas.List.{length-take, take_all}
use Rattle.wy_kernel.specs.declared.program.Program.{Program}
use Rattle.wy_explain.specs.Explained.{program_line}
use Rattle.wy_lens.specs.Answers.{HasCause, IsFileAnswer, IsSourceAnswer, Lacks, SpeaksOfNoFile}
use Rattle.wy_lens.specs.Due.{DueFor, DueForFile}
use Rattle.wy_lens.specs.Refusals.{IsExplained}
use Rattle.wy_lens.specs.Statuses.{code_of}
use Rattle.wy_lens.specs.Texts.{absent_line, too_long_line}
use Rattle.wy_lens.specs.declared.answer.Answer.{Answer}
use Rattle.wy_lens.specs.declared.status.Status.{Status}
use Rattle.wy_lens.specs.declared.status.Status.TheVariants.{Absent, Done, Fault, Refused, TooLong, Usage}
use Rattle.wy_outside.specs.Counts.{Rose}
use Rattle.wy_outside.specs.Shelf.{Files, ReadsFile, is_absent, is_failed}
use Rattle.wy_outside.specs.declared.shelf.ShelfError.{ShelfError}
use Rattle.wy_outside.specs.declared.shelf.ShelfError.TheVariants as shelf
use Rattle.wy_program.specs.Programs.{IsProgramOf}
use Rattle.wy_program.specs.Sources.{IsRefusedFor}
use Rattle.wy_constant.specs.declared.source_refusal.SourceRefusal.{SourceRefusal}

-- ---- statuses

pub quiet : (answer : Answer) (s : Status) → answer.status ≡ s → s ≢ Fault → s ≢ Absent → s ≢ TooLong → s ≢ Usage → SpeaksOfNoFile answer
quiet answer s is fault absent long usage = ((λ e. fault (sym is ∙ e)), (λ e. absent (sym is ∙ e)), (λ e. long (sym is ∙ e)), (λ e. usage (sym is ∙ e)))

pub done_quiet : (answer : Answer) → answer.status ≡ Done → SpeaksOfNoFile answer
done_quiet answer is = quiet answer Done is (λ e. cc) (λ e. cc) (λ e. cc) (λ e. cc)

-- ---- a source

pub program_due : (name source : List ℕ) (p : Program) (r : Result Answer AllocError) → IsProgramOf source p
    → IfOk r (λ a. (a.status ≡ Done) × (a.text.items ≡ program_line name)) → IfOk r (IsSourceAnswer name source)
program_due name source p (Ok a) is h = (done_quiet a h.0, inl (p, is, ap code_of h.0, h.1))
program_due name source p (Err e) is h = tt

pub refusal_due : (name source : List ℕ) (refusal : SourceRefusal) (r : Result Answer AllocError) → IsRefusedFor source refusal
    → IfOk r (λ a. (a.status ≡ Refused) × IsExplained name source refusal a.text.items) → IfOk r (IsSourceAnswer name source)
refusal_due name source refusal (Ok a) is h = (quiet a Refused h.0 (λ e. cc) (λ e. cc) (λ e. cc) (λ e. cc), inr (refusal, is, ap code_of h.0, h.1))
refusal_due name source refusal (Err e) is h = tt

-- ---- the file of a name

abbrev ByBytes : Type 1
ByBytes = List ℕ → ℕ → List ℕ → Type 0

-- the file that a read of at most so many bytes found
found_at : (max : ℕ) (bytes : List ℕ) (file : Option (List ℕ)) → option_map (take max) file ≡ Some bytes
    → (text : List ℕ) × (file ≡ Some text) × (take max text ≡ bytes)
found_at max bytes None h = absurd (cc)
found_at max bytes (Some text) h = (text, refl, cc)

found : (held : Option Files) (name : List ℕ) (limit : ℕ) (bytes : Vec ℕ Global) (files : Files) → ReadsFile held name (limit + 1) (Ok bytes) → held ≡ Some files
    → (text : List ℕ) × (files name ≡ Some text) × (take (limit + 1) text ≡ bytes.items)
found held name limit bytes files reads is = found_at (limit + 1) bytes.items (files name) (subst (λ (h : Option Files). ReadsFile h name (limit + 1) (Ok bytes)) is reads)

size_found : (max : ℕ) (text bytes : List ℕ) → take max text ≡ bytes → min max (length text) ≡ length bytes
size_found max text bytes is = sym (length-take max text) ∙ ap length is

pub too_long_due : (due : ByBytes) (held : Option Files) (name : List ℕ) (limit : ℕ) (bytes : Vec ℕ Global) → ReadsFile held name (limit + 1) (Ok bytes) → limit < vec_len bytes
    → (files : Files) → held ≡ Some files → DueForFile files name limit due 8 (too_long_line name)
too_long_due due held name limit bytes reads more files is =
    let e = found held name limit bytes files reads is in
    let size = size_found (limit + 1) e.0 bytes.items e.2 in
    inr (inl (e.0, e.1, omega arith, refl, refl))

absent_due : (due : ByBytes) (held : Option Files) (name : List ℕ) (limit : ℕ) → ReadsFile held name (limit + 1) (Err shelf.Absent)
    → (files : Files) → held ≡ Some files → DueForFile files name limit due 3 (absent_line name)
absent_due due held name limit reads files is = inl (subst (λ (h : Option Files). ReadsFile h name (limit + 1) (Err shelf.Absent)) is reads, refl, refl)

content_due : (due : ByBytes) (held : Option Files) (name : List ℕ) (limit : ℕ) (bytes : Vec ℕ Global) (status : ℕ) (text : List ℕ) → ReadsFile held name (limit + 1) (Ok bytes) → vec_len bytes ≤ limit
    → due bytes.items status text → (files : Files) → held ≡ Some files → DueForFile files name limit due status text
content_due due held name limit bytes status text reads few is files told =
    let e = found held name limit bytes files reads told in
    let size = size_found (limit + 1) e.0 bytes.items e.2 in
    let same : e.0 ≡ bytes.items = sym (take_all (limit + 1) e.0 (omega arith)) ∙ e.2 in
    inr (inr (bytes.items, e.1 ∙ ap Some same, omega arith, is))

-- what is due for the bytes is due for their file
pub content_answers : (due : ByBytes) (held : Option Files) (name given : List ℕ) (limit : ℕ) (bytes : Vec ℕ Global) (n m : ℕ) (r : Result Answer AllocError) → ReadsFile held name (limit + 1) (Ok bytes)
    → vec_len bytes ≤ limit → given ≡ bytes.items → m ≡ n → IfOk r (λ a. SpeaksOfNoFile a × due given (code_of a.status) a.text.items)
    → IfOk r (IsFileAnswer (λ files. DueForFile files name limit due) held n m)
content_answers due held name given limit bytes n m (Ok a) reads few all same is =
    inr (same, is.0.0, content_due due held name limit bytes (code_of a.status) a.text.items reads few (subst (λ (s : List ℕ). due s (code_of a.status) a.text.items) all is.1))
content_answers due held name given limit bytes n m (Err e) reads few all same is = tt

pub content_causes : (P : Answer → Type 0) (a b c d : ℕ) (r : Result Answer AllocError) → IfOk r (λ x. SpeaksOfNoFile x × P x) → IfOk r (HasCause a b c d)
content_causes P a b c d (Ok x) is = ((λ e. absurd (is.0.1 e)), (λ e. absurd (is.0.2 e)))
content_causes P a b c d (Err e) is = tt

pub content_asked : (P : Answer → Type 0) (r : Result Answer AllocError) → IfOk r (λ x. SpeaksOfNoFile x × P x) → IfOk r (λ x. x.status ≢ Usage)
content_asked P (Ok x) is = is.0.3
content_asked P (Err e) is = tt

-- the same for the file of one name, beside what is due for that of another
pub beside_answers : (held mid : Option Files) (good bad given : List ℕ) (limit : ℕ) (due : List ℕ → ByBytes) (bytes : Vec ℕ Global) (n k m : ℕ) (r : Result Answer AllocError) → ReadsFile held good (limit + 1) (Ok bytes)
    → vec_len bytes ≤ limit → given ≡ bytes.items → k ≡ n → mid ≡ held → IfOk r (IsFileAnswer (λ files. DueForFile files bad limit (due given)) mid k m)
    → IfOk r (IsFileAnswer (λ files. DueForFile files good limit (λ first. DueForFile files bad limit (due first))) held n m)
beside_answers held mid good bad given limit due bytes n k m (Ok a) reads few all same stay (inl (fault, line, rose)) = inl (fault, line, subst (λ j. Rose j m) same rose)
beside_answers held mid good bad given limit due bytes n k m (Ok a) reads few all same stay (inr (kept, other, is)) =
    inr (
      kept ∙ same,
      other,
      λ files told.
          content_due (λ first. DueForFile files bad limit (due first)) held good limit bytes (code_of a.status) a.text.items reads few
          (subst (λ (s : List ℕ). DueForFile files bad limit (due s) (code_of a.status) a.text.items) all (is files (stay ∙ told))) files told,
    )
beside_answers held mid good bad given limit due bytes n k m (Err e) reads few all same stay is = tt

pub causes_on : (a b c d x y : ℕ) (r : Result Answer AllocError) → x ≡ a → y ≡ c → IfOk r (HasCause x b y d) → IfOk r (HasCause a b c d)
causes_on a b c d x y r same so is = subst (λ z. IfOk r (HasCause z b c d)) same (subst (λ z. IfOk r (HasCause x b z d)) so is)

-- ---- a file that was not read

pub lacking_answers_by : (due : Files → ByBytes) (held : Option Files) (name : List ℕ) (limit : ℕ) (error : ShelfError) (n m : ℕ) (r : Result Answer AllocError) → ReadsFile held name (limit + 1) (Err error)
    → MatchBool (is_failed error) (Rose n m) (m ≡ n) → IfOk r (Lacks name error) → IfOk r (IsFileAnswer (λ files. DueForFile files name limit (due files)) held n m)
lacking_answers_by due held name limit shelf.Absent n m (Ok a) reads same is =
    inr (same, (λ e. absurd (let x = sym is.0 ∙ e in cc)), λ files told. rw (is.0, is.1) (absent_due (due files) held name limit reads files told))
lacking_answers_by due held name limit shelf.Failed n m (Ok a) reads rose is = inl (is.0, is.1, rose)
lacking_answers_by due held name limit shelf.NoMemory n m (Ok a) reads same is = absurd is
lacking_answers_by due held name limit error n m (Err e) reads same is = tt

pub lacking_answers : (due : ByBytes) (held : Option Files) (name : List ℕ) (limit : ℕ) (error : ShelfError) (n m : ℕ) (r : Result Answer AllocError) → ReadsFile held name (limit + 1) (Err error)
    → MatchBool (is_failed error) (Rose n m) (m ≡ n) → IfOk r (Lacks name error) → IfOk r (IsFileAnswer (λ files. DueForFile files name limit due) held n m)
lacking_answers due = lacking_answers_by (λ files. due)

pub lacking_causes : (name : List ℕ) (error : ShelfError) (a b c d : ℕ) (r : Result Answer AllocError) → MatchBool (is_absent error) (Rose a b) (b ≡ a) → IfOk r (Lacks name error)
    → IfOk r (HasCause a b c d)
lacking_causes name shelf.Absent a b c d (Ok x) rose is = ((λ e. rose), (λ e. absurd (let x = sym is.0 ∙ e in cc)))
lacking_causes name shelf.Failed a b c d (Ok x) same is = ((λ e. absurd (let x = sym is.0 ∙ e in cc)), (λ e. absurd (let x = sym is.0 ∙ e in cc)))
lacking_causes name shelf.NoMemory a b c d (Ok x) same is = absurd is
lacking_causes name error a b c d (Err e) same is = tt

pub lacking_asked : (name : List ℕ) (error : ShelfError) (r : Result Answer AllocError) → IfOk r (Lacks name error) → IfOk r (λ x. x.status ≢ Usage)
lacking_asked name shelf.Absent (Ok x) is = λ e. absurd (let x = sym is.0 ∙ e in cc)
lacking_asked name shelf.Failed (Ok x) is = λ e. absurd (let x = sym is.0 ∙ e in cc)
lacking_asked name shelf.NoMemory (Ok x) is = absurd is
lacking_asked name error (Err e) is = tt
