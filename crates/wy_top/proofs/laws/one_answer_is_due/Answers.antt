use Rattle.std.proofs.Common.{◌≡◌, ◌∙◌, sym, ap, subst, refl, inl, inr, ◌⊎◌, ℕ, List, Option, Some, None}
use Rattle.wy_kernel.specs.Program.{Program}
use Rattle.wy_outside.specs.Shelf.{Files}
use Rattle.wy_words.specs.Words.{Asked, Asks, Command, Run, Record, Output, Questions, Why, Affects, Certify, Check, Scope, WhyNot, Audit, Explore, Migrate, Gen, AskOneCommand}
use Rattle.wy_gen.specs.Generated.{source}
use Rattle.wy_reply.specs.Generated.{generated_report}
use Rattle.wy_reply.specs.Report.{report, recorded_report}
use Rattle.wy_reply.specs.Tellings.{Bytes, Given, Lacking, Wanted}
use Rattle.wy_reply.specs.Tellings as wanted
use Rattle.wy_kernel.specs.Limits.{source_limit, input_limit, trace_limit}
use Rattle.wy_top.specs.Held.{Gives, Holds, Lacks, absent, bytes, certificate_limit, lacking, too_long, IsInput}
use Rattle.wy_top.specs.Due.{Due, DueFor, DueForBytes, DueForRun, DueForTrace, DueTo, usage, asked, explored, generated, AreSyntaxLines, of_source, of_head, of_generated, run_of, trace_of}
use Rattle.wy_top.specs.Due as due
use Rattle.wy_top.proofs.FileReads.{not_lacking, one_file}
use Rattle.wy_top.proofs.OneText.{Known, SameLines, one_for}
use Rattle.wy_top.proofs.OneTrace.{Traces, SameOfTrace, one_text, syntax_lines, one_of_bytes}
use Rattle.wy_top.proofs.laws.one_answer_is_due.Goals as goal

-- ---- files

one_lack : (f : Files) (name : List ℕ) (limit : ℕ) (s t : ℕ) (x y : List ℕ) → Lacks f name limit s x → Lacks f name limit t y → (s ≡ t) × (x ≡ y)
one_lack f name limit _ _ _ _ (absent none) (absent also) = (refl, refl)
one_lack f name limit _ _ _ _ (absent none) (too_long u found more) = absurd (let e : Some u ≡ None = sym found ∙ none in cc)
one_lack f name limit _ _ _ _ (too_long u found more) (absent none) = absurd (let e : Some u ≡ None = sym found ∙ none in cc)
one_lack f name limit _ _ _ _ (too_long u found more) (too_long v also greater) = (refl, refl)

one_input : (f : Files) (name : Option (List ℕ)) (i j : List ℕ) → IsInput f name i → IsInput f name j → j ≡ i
one_input f None i j x y = y ∙ sym x
one_input f (Some name) i j x y = one_file f name i j x.found y.found

one_given : (f : Files) (name : List ℕ) (g h : Given) → Gives f name g → Gives f name h → h ≡ g
one_given f name _ _ (bytes t holds) (bytes u also) = ap Bytes (one_file f name t u holds.found also.found)
one_given f name _ _ (bytes t holds) (lacking s x lacks) = absurd (not_lacking f name certificate_limit t s x holds lacks)
one_given f name _ _ (lacking s x lacks) (bytes u also) = absurd (not_lacking f name certificate_limit u s x also lacks)
one_given f name _ _ (lacking s x lacks) (lacking t y more) = let e = one_lack f name certificate_limit t s y x more lacks in λ i. Lacking (e.0 i) (e.1 i)

-- ---- a run of one shelf

one_run : Known → (f : Files) (a : Asked) (told : List ℕ → Program → List ℕ → List ℕ) (s t : ℕ) (x y : List ℕ) → DueForRun f a told s x → DueForRun f a told t y →
    (s ≡ t) × ((x ≡ y) ⊎ ((source : List ℕ) × Holds f a.source source_limit source × SameLines source x y))
one_run known f a told _ _ _ _ (due.no_source s x l) (due.no_source t y m) = let e = one_lack f a.source source_limit s t x y l m in (e.0, inl e.1)
one_run known f a told _ _ _ _ (due.no_source s x l) (due.no_input u n t y h is m) = absurd (not_lacking f a.source source_limit u s x h l)
one_run known f a told _ _ _ _ (due.no_source s x l) (due.read u j t y h is d) = absurd (not_lacking f a.source source_limit u s x h l)
one_run known f a told _ _ _ _ (due.no_input u n s x h is m) (due.no_source t y l) = absurd (not_lacking f a.source source_limit u t y h l)
one_run known f a told _ _ _ _ (due.no_input u n s x h is l) (due.no_input v k t y g also m) =
    let names : Some k ≡ Some n = sym also ∙ is in
    let name : k ≡ n = cc in
    let e = one_lack f n input_limit s t x y l (subst (λ (z : List ℕ). Lacks f z input_limit t y) name m) in (e.0, inl e.1)
one_run known f a told _ _ _ _ (due.no_input u n s x h is l) (due.read v j t y g also d) = absurd (not_lacking f n input_limit j s x (subst (λ (z : Option (List ℕ)). IsInput f z j) is also) l)
one_run known f a told _ _ _ _ (due.read u i s x h is d) (due.no_source t y l) = absurd (not_lacking f a.source source_limit u t y h l)
one_run known f a told _ _ _ _ (due.read u i s x h is d) (due.no_input v n t y g also l) = absurd (not_lacking f n input_limit i t y (subst (λ (z : Option (List ℕ)). IsInput f z i) also is) l)
one_run known f a told _ _ _ _ (due.read u i s x h is d) (due.read v j t y g also other) =
    let source : v ≡ u = one_file f a.source u v h.found g.found in
    let input : j ≡ i = one_input f a.input i j is also in
    let e = one_for known u (told i) s t x y d (subst (λ (z : List ℕ). DueFor u (told z) t y) input (subst (λ (z : List ℕ). DueFor z (told j) t y) source other)) in
    (e.0, inr (u, h, e.1))

-- ---- a trace of one shelf

one_trace : Known → Traces → (f : Files) (name : List ℕ) (w : Wanted) (s t : ℕ) (x y : List ℕ) → DueForTrace f name w s x → DueForTrace f name w t y →
    (s ≡ t) × ((x ≡ y) ⊎ ((content : List ℕ) × Holds f name trace_limit content × SameOfTrace content x y))
one_trace known traces f name w _ _ _ _ (due.no_trace s x l) (due.no_trace t y m) = let e = one_lack f name trace_limit s t x y l m in (e.0, inl e.1)
one_trace known traces f name w _ _ _ _ (due.no_trace s x l) (due.read b t y h d) = absurd (not_lacking f name trace_limit b s x h l)
one_trace known traces f name w _ _ _ _ (due.read b s x h d) (due.no_trace t y m) = absurd (not_lacking f name trace_limit b t y h m)
one_trace known traces f name w _ _ _ _ (due.read b s x h d) (due.read c t y g others) =
    let same : c ≡ b = one_file f name b c h.found g.found in
    let e = one_of_bytes known traces b w s t x y d (subst (λ (z : List ℕ). DueForBytes z w t y) same others) in
    (e.0, inr (b, h, e.1))

-- ---- the words

abbrev Same : List (List ℕ) → Option Files → ℕ → ℕ → List ℕ → List ℕ → Type 0
Same words held s t x y = (s ≡ t) × ((x ≡ y) ⊎ AreSyntaxLines words held x y)

run_same : (words : List (List ℕ)) (held : Option Files) (c : Command) (f : Files) (a : Asked) (s t : ℕ) (x y : List ℕ) → Asks words c → held ≡ Some f → run_of c ≡ Some a →
    (s ≡ t) × ((x ≡ y) ⊎ ((source : List ℕ) × Holds f a.source source_limit source × SameLines source x y)) → Same words held s t x y
run_same words held c f a s t x y asks told is (e, inl same) = (e, inl same)
run_same words held c f a s t x y asks told is (e, inr (source, holds, inl same)) = (e, inl same)
run_same words held c f a s t x y asks told is (e, inr (source, holds, inr (spans, ts, first, second))) = (e, inr (of_source c f a source spans x y asks told is holds ts first second))

lines_same : (words : List (List ℕ)) (held : Option Files) (c : Command) (f : Files) (name content : List ℕ) (x y : List ℕ) → Asks words c → held ≡ Some f → trace_of c ≡ Some name → Holds f name trace_limit content →
    SameOfTrace content x y → (x ≡ y) ⊎ AreSyntaxLines words held x y
lines_same words held c f name content _ _ asks told is holds (one_text x) = inl refl
lines_same words held c f name content _ _ asks told is holds (syntax_lines head end v spans x y at ts first second) = inr (of_head c f name content head end v spans x y asks told is holds at ts first second)

trace_same : (words : List (List ℕ)) (held : Option Files) (c : Command) (f : Files) (name : List ℕ) (s t : ℕ) (x y : List ℕ) → Asks words c → held ≡ Some f → trace_of c ≡ Some name →
    (s ≡ t) × ((x ≡ y) ⊎ ((content : List ℕ) × Holds f name trace_limit content × SameOfTrace content x y)) → Same words held s t x y
trace_same words held c f name s t x y asks told is (e, inl same) = (e, inl same)
trace_same words held c f name s t x y asks told is (e, inr (content, holds, lines)) = (e, lines_same words held c f name content x y asks told is holds lines)

one_command : Known → Traces → (words : List (List ℕ)) (held : Option Files) (c : Command) (f : Files) (s t : ℕ) (x y : List ℕ) → Asks words c → held ≡ Some f → DueTo f c s x → DueTo f c t y → Same words held s t x y
one_command known traces words held (Run a) f s t x y asks told first second =
    run_same words held (Run a) f a s t x y asks told refl (one_run known f a (λ input p lines. report p lines input a.steps) s t x y first second)
one_command known traces words held (Record a trace) f s t x y asks told first second =
    run_same words held (Record a trace) f a s t x y asks told refl (one_run known f a (λ input p lines. recorded_report p lines input a.steps) s t x y first second)
one_command known traces words held (Output trace) f s t x y asks told first second =
    trace_same words held (Output trace) f trace s t x y asks told refl (one_trace known traces f trace wanted.Output s t x y first second)
one_command known traces words held (Why trace question) f s t x y asks told first second =
    trace_same words held (Why trace question) f trace s t x y asks told refl (one_trace known traces f trace (wanted.Why question) s t x y first second)
one_command known traces words held (Affects trace question) f s t x y asks told first second =
    trace_same words held (Affects trace question) f trace s t x y asks told refl (one_trace known traces f trace (wanted.Affects question) s t x y first second)
one_command known traces words held (Certify trace question) f s t x y asks told first second =
    trace_same words held (Certify trace question) f trace s t x y asks told refl (one_trace known traces f trace (wanted.Certify question) s t x y first second)
one_command known traces words held (Check trace name) f s t x y asks told first second =
    let given = one_given f name first.given second.given first.gives second.gives in
    trace_same words held (Check trace name) f trace s t x y asks told refl
    (one_trace known traces f trace (wanted.Check first.given) s t x y first.is (subst (λ (g : Given). DueForTrace f trace (wanted.Check g) t y) given second.is))
one_command known traces words held (Questions trace) f s t x y asks told first second =
    trace_same words held (Questions trace) f trace s t x y asks told refl (one_trace known traces f trace wanted.Questions s t x y first second)
one_command known traces words held (WhyNot trace statement) f s t x y asks told first second =
    trace_same words held (WhyNot trace statement) f trace s t x y asks told refl (one_trace known traces f trace (wanted.WhyNot statement) s t x y first second)
one_command known traces words held (Scope trace statement call) f s t x y asks told first second =
    trace_same words held (Scope trace statement call) f trace s t x y asks told refl (one_trace known traces f trace (wanted.Scope statement call) s t x y first second)
one_command known traces words held (Audit trace) f s t x y asks told first second =
    trace_same words held (Audit trace) f trace s t x y asks told refl (one_trace known traces f trace wanted.Audit s t x y first second)
one_command known traces words held (Migrate trace name) f s t x y asks told first second =
    trace_same words held (Migrate trace name) f trace s t x y asks told refl (one_trace known traces f trace wanted.Migrate s t x y first second)
one_command known traces words held (Explore trace) f s t x y asks told first second = absurd first
one_command known traces words held (Gen n) f s t x y asks told first second = absurd first

-- a generated program
gen_is : (m n : ℕ) → Gen m ≡ Gen n → m ≡ n
gen_is m n e = cc

explore_is : (t u : List ℕ) → Explore t ≡ Explore u → t ≡ u
explore_is t u e = cc

same_generated : (words : List (List ℕ)) (held : Option Files) (n s t : ℕ) (x y : List ℕ) → Asks words (Gen n) → (s ≡ t) × SameLines (source n) x y → Same words held s t x y
same_generated words held n s t x y asks (e, inl same) = (e, inl same)
same_generated words held n s t x y asks (e, inr (spans, ts, first, second)) = (e, inr (of_generated n spans x y asks ts first second))

one : Known → Traces → AskOneCommand → (words : List (List ℕ)) (held : Option Files) (keys : Option (List ℕ)) (s t : ℕ) (x y : List ℕ) → Due words held keys s x → Due words held keys t y → Same words held s t x y
one known traces commands words held keys _ _ _ _ (usage none) (usage also) = (refl, inl refl)
one known traces commands words held keys _ _ _ _ (usage none) (asked c f t y asks told d) = absurd (none c asks)
one known traces commands words held keys _ _ _ _ (usage none) (explored name f i t y asks told given d) = absurd (none (Explore name) asks)
one known traces commands words held keys _ _ _ _ (usage none) (generated n t y asks d) = absurd (none (Gen n) asks)
one known traces commands words held keys _ _ _ _ (asked c f s x asks told d) (usage none) = absurd (none c asks)
one known traces commands words held keys _ _ _ _ (asked c f s x asks told first) (asked d g t y also held_so second) =
    let same : d ≡ c = commands words d c also asks in
    let shelves : Some g ≡ Some f = sym held_so ∙ told in
    let shelf : g ≡ f = cc in
    one_command known traces words held c f s t x y asks told first (subst (λ (z : Command). DueTo f z t y) same (subst (λ (z : Files). DueTo z d t y) shelf second))
one known traces commands words held keys _ _ _ _ (asked c f s x asks told first) (explored name g i t y also held_so given second) = absurd (subst (λ (z : Command). DueTo f z s x) (commands words c (Explore name) asks also) first)
one known traces commands words held keys _ _ _ _ (asked c f s x asks told first) (generated n t y also second) = absurd (subst (λ (z : Command). DueTo f z s x) (commands words c (Gen n) asks also) first)
one known traces commands words held keys _ _ _ _ (explored name f i s x asks told given first) (usage none) = absurd (none (Explore name) asks)
one known traces commands words held keys _ _ _ _ (explored name f i s x asks told given first) (asked c g t y also held_so second) = absurd (subst (λ (z : Command). DueTo g z t y) (commands words c (Explore name) also asks) second)
one known traces commands words held keys _ _ _ _ (explored name f i s x asks told given first) (explored other g j t y also held_so given_so second) =
    let same : other ≡ name = explore_is other name (commands words (Explore other) (Explore name) also asks) in
    let shelves : Some g ≡ Some f = sym held_so ∙ told in
    let shelf : g ≡ f = cc in
    let inputs : Some j ≡ Some i = sym given_so ∙ given in
    let input : j ≡ i = cc in
    trace_same words held (Explore name) f name s t x y asks told refl
    (one_trace known traces f name (wanted.Explore i) s t x y first
    (subst (λ (z : List ℕ). DueForTrace f name (wanted.Explore z) t y) input (subst (λ (z : List ℕ). DueForTrace f z (wanted.Explore j) t y) same (subst (λ (z : Files). DueForTrace z other (wanted.Explore j) t y) shelf second))))
one known traces commands words held keys _ _ _ _ (explored name f i s x asks told given first) (generated n t y also second) = absurd (let e = commands words (Explore name) (Gen n) asks also in cc)
one known traces commands words held keys _ _ _ _ (generated n s x asks first) (usage none) = absurd (none (Gen n) asks)
one known traces commands words held keys _ _ _ _ (generated n s x asks first) (asked c f t y also told second) = absurd (subst (λ (z : Command). DueTo f z t y) (commands words c (Gen n) also asks) second)
one known traces commands words held keys _ _ _ _ (generated n s x asks first) (explored name f i t y also told given second) = absurd (let e = commands words (Gen n) (Explore name) asks also in cc)
one known traces commands words held keys _ _ _ _ (generated n s x asks first) (generated m t y also second) =
    let same : m ≡ n = gen_is m n (commands words (Gen m) (Gen n) also asks) in
    same_generated words held n s t x y asks (one_for known (source n) (λ p lines. generated_report n p) s t x y first
    (subst (λ (k : ℕ). DueFor (source k) (λ p lines. generated_report k p) t y) same second))

pub returns : goal.returns
returns c =
    one (record {
      lists = c.a_text_has_one_token_list.ensures;
      tokens = c.a_refused_text_has_no_tokens.ensures.tokens;
      one = c.a_refused_text_has_no_tokens.ensures.one;
      utf8 = c.a_refused_text_has_no_tokens.ensures.utf8;
      trees = c.a_token_list_has_one_tree.ensures;
      programs = c.a_text_has_one_program.ensures;
    }) (record { reading = c.bytes_are_read_in_one_way.ensures; answers = c.one_answer_to_questions.ensures; statements = c.one_answer_to_whynot.ensures; scopes = c.one_answer_to_scope.ensures; audits = c.one_audit_is_due.ensures; certificates = c.one_certificate_is_made.ensures; verdicts = c.one_verdict_is_due.ensures; sessions = c.one_talk.ensures }) c.words_ask_one_command.ensures
