-- What is due for the bytes of one trace is one, but for the token of Syntax in its source.
use Rattle.std.proofs.Common.{◌≡◌, ◌∙◌, sym, ap, subst, refl, inl, inr, ℕ, List, [], ◌∷◌, length, drop, map, Option, Some, None, option_map, Result, Ok, Err}
use Rattle.std.specs.Prelude.{MatchResult}
use Rattle.std.proofs.lemmas.List.{length-map}
use Rattle.wy_kernel.specs.declared.program.Program as memory
use Rattle.wy_kernel.specs.declared.form.Body as memory_body
use Rattle.wy_kernel.specs.declared.types.Field as memory_field
use Rattle.wy_kernel.specs.Program.{Program, Body, Field}
use Rattle.wy_kernel.specs.Parts.{program_of}
use Rattle.wy_kernel.specs.Statements.{statements_of}
use Rattle.wy_kernel.specs.View.{class_of, method_of, field_of, body_of, local_of}
use Rattle.wy_event.specs.Record.{Recorded, recorded}
use Rattle.wy_event.specs.declared.record.Head.{Head}
use Rattle.wy_event.specs.declared.record.Trace.{Trace}
use Rattle.wy_event.specs.declared.record.Version.{Version}
use Rattle.wy_value.specs.Encoding.{utf8_of}
use Rattle.wy_meaning.specs.Kept.{kept_tail}
use Rattle.wy_payload.specs.Bodies.{locals_of, newlines_of}
use Rattle.wy_payload.specs.Ranges.{ranges_of}
use Rattle.wy_payload.specs.declared.ranges.Ranges.{Ranges}
use Rattle.wy_frames.specs.declared.error.TraceError.{TraceError}
use Rattle.wy_frames.specs.Heads.{ReadHead, head_of, version_of}
use Rattle.wy_frames.specs.Scan.{Leaves, Waits, turn, Refused}
use Rattle.wy_frames.specs.Progress.{Progress, start}
use Rattle.wy_frames.specs.Traces.{AllStand, IsReadAs, IsReadBehind}
use Rattle.law_reading.specs.OneReading.{ReadsInOneWay, SaysOfBytes}
use Rattle.wy_machine.specs.Audits.{OneAuditIsDue}
use Rattle.wy_why.specs.declared.answer.Answer.{Answer}
use Rattle.wy_ask.specs.Asked.{owners}
use Rattle.wy_cert.specs.Goodness.{Certifies}
use Rattle.wy_check.specs.declared.error.CertError.{CertError}
use Rattle.wy_check.specs.Checks.{Judges}
use Rattle.wy_check.specs.Laws.{OneCertifies, OneVerdictIsDue, SayTheSame}
use Rattle.wy_reply.specs.Certificates.{CertifyIs, itself, seal_of, verdict_line, verdict_status}
use Rattle.wy_telling.specs.Output.{output_text}
use Rattle.wy_telling.specs.Affects.{AffectsIs, affects_text}
use Rattle.wy_telling.specs.Answers.{OneAnswerToQuestions, Refused as Refusal}
use Rattle.wy_telling.specs.Why.{WhyIs, why_text}
use Rattle.wy_tree.specs.Tokens.{SpannedToken, Tokens}
use Rattle.wy_reply.specs.Lines.{good_line, of_trace}
use Rattle.wy_telling.specs.Questions.{questions_text}
use Rattle.wy_telling.specs.Whynot.{OneAnswerToWhynot, WhynotIs}
use Rattle.wy_telling.specs.Scoped.{OneAnswerToScope, ScopeIs}
use Rattle.wy_session.specs.Desk.{scene_of}
use Rattle.wy_session.specs.Laws.{OneTalk}
use Rattle.wy_session.specs.Scene.{Scene}
use Rattle.wy_session.specs.Talk.{Talks}
use Rattle.wy_reply.specs.Tellings.{IsTraceLine, Wanted, Tells, DueUnder, covers_of, cut, damaged, bad_seal, output, questions, why, affects, certify, check, lacking, whynot, scoped, audit, explore, migrated, refused, told, answer_status, answer_text, whynot_status, whynot_answer, scope_status, scope_answer, audit_status, audit_line}
use Rattle.wy_top.specs.Causes.{IsNoProgram, IsSyntaxLine}
use Rattle.wy_top.specs.Due.{DueForBytes, no_head, no_program, program}
use Rattle.wy_program.specs.Programs.{IsProgramOf}
use Rattle.wy_top.proofs.OneText.{Known, SameLines, one_cause, one_program, program_or_cause}

-- what is known of traces
pub record Traces : Type 0 where
  pub reading : ReadsInOneWay
  pub answers : OneAnswerToQuestions
  pub statements : OneAnswerToWhynot
  pub scopes : OneAnswerToScope
  pub audits : OneAuditIsDue
  pub certificates : OneCertifies
  pub verdicts : OneVerdictIsDue
  pub sessions : OneTalk

-- ---- the ranges of a program are those of its parts and lines

statics_are : (fields : List memory_field.Field) → map (λ f. f.is_static) fields ≡ map (λ (f : Field). f.is_static) (map field_of fields)
statics_are [] = refl
statics_are (f ∷ fields) = ap (λ l. f.is_static ∷ l) (statics_are fields)

abbrev count_in : Option Body → ℕ
count_in None = 0
count_in (Some b) = length b.locals

one_count : (b : Option memory_body.Body) → locals_of b ≡ count_in (option_map body_of b)
one_count None = refl
one_count (Some b) = sym (length-map b.locals.items local_of)

counts_are : (bodies : List (Option memory_body.Body)) → map locals_of bodies ≡ map count_in (map (option_map body_of) bodies)
counts_are [] = refl
counts_are (b ∷ bodies) = λ i. one_count b i ∷ counts_are bodies i

texts_are : {V : Type 0} (units : V → List ℕ) (texts : List V) → map (λ t. length (utf8_of (units t))) texts ≡ map (λ u. length (utf8_of u)) (map units texts)
texts_are units [] = refl
texts_are units (t ∷ texts) = ap (λ l. length (utf8_of (units t)) ∷ l) (texts_are units texts)

abbrev ranges_in : Version → Program → List ℕ → Ranges
ranges_in v p lines = record {
  version = v;
  tokens = length lines;
  classes = length p.classes;
  methods = length p.methods;
  statements = p.statements;
  statics = map (λ (f : Field). f.is_static) p.fields;
  method_locals = map count_in p.bodies;
  class_locals = map count_in p.init_bodies;
  fixed = map (λ u. length (utf8_of u)) p.fixed_texts;
  newlines = newlines_of (statements_of p);
}

ranges_are : (v : Version) (p : memory.Program) → ranges_of v p ≡ ranges_in v (program_of p) p.lines.items
unfolding ranges_of
ranges_are v p = λ i. record {
  version = v;
  tokens = length p.lines.items;
  classes = sym (length-map p.classes.items class_of) i;
  methods = sym (length-map p.methods.items method_of) i;
  statements = p.statements;
  statics = statics_are p.fields.items i;
  method_locals = counts_are p.bodies.items i;
  class_locals = counts_are p.init_bodies.items i;
  fixed = texts_are (λ v. v.items) p.fixed_texts.items i;
  newlines = newlines_of (statements_of (program_of p));
}

pub same_ranges : (p q : memory.Program) → program_of p ≡ program_of q → p.lines.items ≡ q.lines.items → (v : Version) → ranges_of v p ≡ ranges_of v q
same_ranges p q parts lines v = ranges_are v p ∙ (λ i. ranges_in v (parts i) (lines i)) ∙ sym (ranges_are v q)

-- ---- so bytes are read alike under each

all_stand : (v : Version) (p q : memory.Program) (head : Head) (fed : List ℕ) (t : Progress) → ranges_of v p ≡ ranges_of v q → AllStand v p head fed t → AllStand v q head fed t
all_stand v p q head fed t same is = record {
  rest = is.rest;
  leaves = subst (λ (r : Ranges). Leaves r head.steps (start v head) fed t is.rest) same is.leaves;
  waits = subst (λ (r : Ranges). turn r head.steps t is.rest ≡ Waits) same is.waits;
}

read_behind : (v : Version) (p q : memory.Program) (head : Head) (fed : List ℕ) (r : Result Trace TraceError) → ranges_of v p ≡ ranges_of v q → IsReadBehind v p head fed r → IsReadBehind v q head fed r
read_behind v p q head fed (Ok x) same (t, stand, has) = (t, all_stand v p q head fed t same stand, has)
read_behind v p q head fed (Err e) same (inl fails) = inl (subst (λ (r : Ranges). Refused r head.steps (start v head) fed e) same fails)
read_behind v p q head fed (Err e) same (inr (t, stand, unsealed, is)) = inr (t, all_stand v p q head fed t same stand, unsealed, is)

read_at : (p q : memory.Program) (bytes : List ℕ) (h : Result ReadHead TraceError) (r : Result Trace TraceError) → ((v : Version) → ranges_of v p ≡ ranges_of v q) →
    MatchResult h (λ x. IsReadBehind x.2 p x.0 (drop x.1 bytes) r) (λ e. r ≡ Err e) → MatchResult h (λ x. IsReadBehind x.2 q x.0 (drop x.1 bytes) r) (λ e. r ≡ Err e)
read_at p q bytes (Ok x) r same is = read_behind x.2 p q x.0 (drop x.1 bytes) r (same x.2) is
read_at p q bytes (Err e) r same is = is

pub read_alike : (p q : memory.Program) (bytes : List ℕ) (r : Result Trace TraceError) → ((v : Version) → ranges_of v p ≡ ranges_of v q) → IsReadAs p bytes r → IsReadAs q bytes r
read_alike p q bytes r same is = read_at p q bytes (head_of bytes) r same is

-- ---- lines

one_trace_line : (e : TraceError) (x y : List ℕ) → IsTraceLine e x → IsTraceLine e y → x ≡ y
one_trace_line _ _ _ (cut byte) (cut b) = refl
one_trace_line _ _ _ (damaged byte rule) (damaged b r) = refl
one_trace_line _ _ _ bad_seal bad_seal = refl

pub says : (e : TraceError) (x : List ℕ) → IsTraceLine e x → SaysOfBytes (Err e)
says _ _ (cut byte) = tt
says _ _ (damaged byte rule) = tt
says _ _ bad_seal = tt

abbrev pub failed : TraceError → Result Trace TraceError
failed e = Err e

-- ---- what is told

abbrev Same : ℕ → ℕ → List ℕ → List ℕ → Type 0
Same s t x y = (s ≡ t) × (x ≡ y)

abbrev certificate_at : List ℕ → Result (List ℕ) Refusal
certificate_at x = Ok x

abbrev no_certificate_at : Refusal → Result (List ℕ) Refusal
no_certificate_at e = Err e

one_certify : Traces → (p : Program) (lines : List ℕ) (rs : List Recorded) (seal question : List ℕ) (a b : Result (List ℕ) Refusal) → CertifyIs p lines rs seal question a → CertifyIs p lines rs seal question b → a ≡ b
one_certify known p lines rs seal question (Ok x) (Ok y) (n, asks, is) (m, also, other) =
    let same : certificate_at (n ∷ []) ≡ certificate_at (m ∷ []) = known.answers itself p lines rs question (Ok (n ∷ [])) (Ok (m ∷ [])) asks also in
    let event : n ≡ m = cc in
    ap certificate_at (known.certificates (owners p) rs seal n x y is (subst (λ k. Certifies (owners p) rs seal k y) (sym event) other))
one_certify known p lines rs seal question (Ok x) (Err e) (n, asks, is) also = absurd (let same : certificate_at (n ∷ []) ≡ no_certificate_at e = known.answers itself p lines rs question (Ok (n ∷ [])) (Err e) asks also in cc)
one_certify known p lines rs seal question (Err e) (Ok y) asks (m, also, other) = absurd (let same : no_certificate_at e ≡ certificate_at (m ∷ []) = known.answers itself p lines rs question (Err e) (Ok (m ∷ [])) asks also in cc)
one_certify known p lines rs seal question (Err e) (Err f) asks also = known.answers itself p lines rs question (Err e) (Err f) asks also

same_said : (r s : Result Answer CertError) → SayTheSame r s → Same (verdict_status r) (verdict_status s) (verdict_line r) (verdict_line s)
same_said (Ok a) (Ok b) (all, flow) = (refl, λ i. good_line (length (all i)) (length (flow i)))
same_said (Ok a) (Err f) same = absurd same
same_said (Err e) (Ok b) same = absurd same
same_said (Err e) (Err f) same = (refl, ap (λ (x : CertError). verdict_line (Err x)) same)

one_telling : Traces → (p q : memory.Program) (seal : List ℕ) (t : Trace) (w : Wanted) (s u : ℕ) (x y : List ℕ) → program_of p ≡ program_of q → p.lines.items ≡ q.lines.items → Tells p seal t w s x → Tells q seal t w u y → Same s u x y
one_telling known p q seal t _ _ _ _ _ parts lines output output = (refl, λ i. output_text (parts i) (lines i) (map recorded t.events) t.tail)
one_telling known p q seal t _ _ _ _ _ parts lines (why question a first) (why asked b second) =
    let e : a ≡ b = known.answers why_text (program_of p) p.lines.items (map recorded t.events) question a b first
    (subst (λ (l : List ℕ). WhyIs (program_of p) l (map recorded t.events) question b) (sym lines) (subst (λ (z : Program). WhyIs z q.lines.items (map recorded t.events) question b) (sym parts) second)) in
    (ap answer_status e, ap answer_text e)
one_telling known p q seal t _ _ _ _ _ parts lines (affects question a first) (affects asked b second) =
    let e : a ≡ b = known.answers affects_text (program_of p) p.lines.items (map recorded t.events) question a b first
    (subst (λ (l : List ℕ). AffectsIs (program_of p) l (map recorded t.events) question b) (sym lines) (subst (λ (z : Program). AffectsIs z q.lines.items (map recorded t.events) question b) (sym parts) second)) in
    (ap answer_status e, ap answer_text e)
one_telling known p q seal t _ _ _ _ _ parts lines questions questions = (refl, λ i. questions_text (parts i) (lines i) (map recorded t.events) (covers_of t))
one_telling known p q seal t _ _ _ _ _ parts lines (whynot word a first) (whynot asked b second) =
    let e : a ≡ b = known.statements (program_of p) p.lines.items (map recorded t.events) (covers_of t) word a b first
    (subst (λ (l : List ℕ). WhynotIs (program_of p) l (map recorded t.events) (covers_of t) word b) (sym lines) (subst (λ (z : Program). WhynotIs z q.lines.items (map recorded t.events) (covers_of t) word b) (sym parts) second)) in
    (ap whynot_status e, ap whynot_answer e)
one_telling known p q seal t _ _ _ _ _ parts lines (scoped word call a first) (scoped said at b second) =
    let e : a ≡ b = known.scopes (program_of p) p.lines.items (map recorded t.events) word call a b first
    (subst (λ (l : List ℕ). ScopeIs (program_of p) l (map recorded t.events) word call b) (sym lines) (subst (λ (z : Program). ScopeIs z q.lines.items (map recorded t.events) word call b) (sym parts) second)) in
    (ap scope_status e, ap scope_answer e)
one_telling known p q seal t _ _ _ _ _ parts lines (explore input m a first) (explore also n b second) =
    known.sessions (scene_of p t.events (covers_of t)) input m n a b first
    (subst (λ (x : Scene). Talks x input n b) (λ i. record { program = sym parts i; lines = sym lines i; records = map recorded t.events; covers = covers_of t }) second)
one_telling known p q seal t _ _ _ _ _ parts lines (audit v first) (audit w second) =
    let e : v ≡ w = known.audits (program_of p) t.head (map recorded t.events) (kept_tail t.tail) v w first (rw (parts) second) in
    (ap audit_status e, ap audit_line e)
one_telling known p q seal t _ _ _ _ _ parts lines (certify question a first) (certify asked b second) =
    let e : a ≡ b = one_certify known (program_of p) p.lines.items (map recorded t.events) seal question a b first
    (subst (λ (l : List ℕ). CertifyIs (program_of p) l (map recorded t.events) seal question b) (sym lines) (subst (λ (z : Program). CertifyIs z q.lines.items (map recorded t.events) seal question b) (sym parts) second)) in
    (ap answer_status e, ap answer_text e)
one_telling known p q seal t _ _ _ _ _ parts lines (check bytes r is first) (check given s also second) =
    same_said r s (known.verdicts (owners (program_of p)) (map recorded t.events) seal bytes r s is also first
    (subst (λ (z : Program). Judges (owners z) (Some (map recorded t.events)) seal bytes s) (sym parts) second))
one_telling known p q seal t _ _ _ _ _ parts lines (lacking s x) (lacking u y) = (refl, refl)
one_telling known p q seal t _ _ _ _ _ parts lines migrated migrated = (refl, refl)

one_under : Traces → (p q : memory.Program) (bytes : List ℕ) (w : Wanted) (s u : ℕ) (x y : List ℕ) → program_of p ≡ program_of q → p.lines.items ≡ q.lines.items → DueUnder p bytes w s x → DueUnder q bytes w u y → Same s u x y
one_under known p q bytes w _ _ _ _ parts lines (refused e k reads line) (refused f l also other) =
    let both : failed e ≡ failed f = known.reading q bytes (Err e) (Err f) (says e k line) (says f l other) (read_alike p q bytes (Err e) (same_ranges p q parts lines) reads) also in
    let same : f ≡ e = cc in
    (refl, one_trace_line e k l line (subst (λ (z : TraceError). IsTraceLine z l) same other))
one_under known p q bytes w _ _ _ _ parts lines (refused e k reads line) (told t u y also tells) =
    absurd (let both : failed e ≡ Ok t = known.reading q bytes (Err e) (Ok t) (says e k line) tt (read_alike p q bytes (Err e) (same_ranges p q parts lines) reads) also in cc)
one_under known p q bytes w _ _ _ _ parts lines (told t s x reads tells) (refused f l also other) =
    absurd (let both : Ok t ≡ failed f = known.reading q bytes (Ok t) (Err f) tt (says f l other) (read_alike p q bytes (Ok t) (same_ranges p q parts lines) reads) also in cc)
one_under known p q bytes w _ _ _ _ parts lines (told t s x reads tells) (told v u y also others) =
    let both : Ok t ≡ Ok v = known.reading q bytes (Ok t) (Ok v) tt tt (read_alike p q bytes (Ok t) (same_ranges p q parts lines) reads) also in
    let same : v ≡ t = cc in
    one_telling known p q (seal_of (version_of bytes) t) t w s u x y parts lines tells (subst (λ (z : Trace). Tells q (seal_of (version_of bytes) z) z w u y) same others)

-- the two texts are one, or both say a line of Syntax for the tokens of the trace's source
pub data SameOfTrace (bytes : List ℕ) : List ℕ → List ℕ → Type 0 where
  one_text : (x : List ℕ) → SameOfTrace bytes x x
  syntax_lines : (head : Head) (end : ℕ) (v : Version) (spans : List SpannedToken) (x y : List ℕ) → head_of bytes ≡ Ok (head, end, v) → Tokens head.source spans → IsSyntaxLine spans x → IsSyntaxLine spans y → SameOfTrace bytes (of_trace x) (of_trace y)

as_one : (bytes x y : List ℕ) → x ≡ y → SameOfTrace bytes x y
as_one bytes x y e = subst (SameOfTrace bytes x) e (one_text x)

of_lines : (bytes : List ℕ) (head : Head) (end : ℕ) (v : Version) (x y : List ℕ) → head_of bytes ≡ Ok (head, end, v) → SameLines head.source x y → SameOfTrace bytes (of_trace x) (of_trace y)
of_lines bytes head end v x y is (inl e) = as_one bytes (of_trace x) (of_trace y) (ap of_trace e)
of_lines bytes head end v x y is (inr (spans, ts, first, second)) = syntax_lines head end v spans x y is ts first second

abbrev head_at : ReadHead → Result ReadHead TraceError
head_at x = Ok x

one_pair : (x y : ReadHead) → head_at x ≡ head_at y → x ≡ y
one_pair x y e = cc

pub one_head : (bytes : List ℕ) (h g : Head) (m n : ℕ) (v u : Version) → head_of bytes ≡ Ok (h, m, v) → head_of bytes ≡ Ok (g, n, u) → g ≡ h
one_head bytes h g m n v u a b = ap (λ (x : ReadHead). x.0) (one_pair (g, n, u) (h, m, v) (sym b ∙ a))

abbrev pub no_head_at : TraceError → Result ReadHead TraceError
no_head_at e = Err e

pub one_of_bytes : Known → Traces → (bytes : List ℕ) (w : Wanted) (s u : ℕ) (x y : List ℕ) → DueForBytes bytes w s x → DueForBytes bytes w u y → (s ≡ u) × SameOfTrace bytes x y
one_of_bytes known traces bytes w _ _ _ _ (no_head e k is line) (no_head f l also other) =
    let both : no_head_at f ≡ no_head_at e = sym also ∙ is in
    let same : f ≡ e = cc in
    (refl, as_one bytes k l (one_trace_line e k l line (subst (λ (z : TraceError). IsTraceLine z l) same other)))
one_of_bytes known traces bytes w _ _ _ _ (no_head e k is line) (no_program h m v l also none) = absurd (let both : no_head_at e ≡ Ok (h, m, v) = sym is ∙ also in cc)
one_of_bytes known traces bytes w _ _ _ _ (no_head e k is line) (program h m v q u y also of due) = absurd (let both : no_head_at e ≡ Ok (h, m, v) = sym is ∙ also in cc)
one_of_bytes known traces bytes w _ _ _ _ (no_program h m v k is none) (no_head f l also other) = absurd (let both : no_head_at f ≡ Ok (h, m, v) = sym also ∙ is in cc)
one_of_bytes known traces bytes w _ _ _ _ (no_program h m v k is none) (no_program g n z l also other) =
    (refl, of_lines bytes h m v k l is (one_cause known h.source k l none (subst (λ (a : Head). IsNoProgram a.source l) (one_head bytes h g m n v z is also) other)))
one_of_bytes known traces bytes w _ _ _ _ (no_program h m v k is none) (program g n z q u y also of due) =
    let there : IsProgramOf h.source q = subst (λ (a : Head). IsProgramOf a.source q) (one_head bytes h g m n v z is also) of in
    absurd (program_or_cause known h.source there.spans _ k there.read there.becomes none)
one_of_bytes known traces bytes w _ _ _ _ (program h m v p s x is of due) (no_head f l also other) = absurd (let both : no_head_at f ≡ Ok (h, m, v) = sym also ∙ is in cc)
one_of_bytes known traces bytes w _ _ _ _ (program h m v p s x is of due) (no_program g n z l also none) =
    let there : IsNoProgram h.source l = subst (λ (a : Head). IsNoProgram a.source l) (one_head bytes h g m n v z is also) none in
    absurd (program_or_cause known h.source of.spans _ l of.read of.becomes there)
one_of_bytes known traces bytes w _ _ _ _ (program h m v p s x is of due) (program g n z q u y also other others) =
    let there : IsProgramOf h.source q = subst (λ (a : Head). IsProgramOf a.source q) (one_head bytes h g m n v z is also) other in
    let same = one_program known h.source p q of there in
    let e = one_under traces p q bytes w s u x y same.0 same.1 due others in
    (e.0, as_one bytes x y e.1)
