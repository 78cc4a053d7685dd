-- The events of a run's own trace are read back.
use Rattle.std.proofs.Common.{◌≡◌, ℕ, ◌<◌, ◌≤◌, ◌^◌, eqb, List, [], ◌∷◌, ◌++◌, map, length, take, drop, Option, Some, Result, Ok, Err, refl, sym, ap, ◌∙◌, subst, append_assoc, append-nil, take-append-drop, arith, length-append}
use Rattle.std.specs.Prelude.{None as Absent}
use Rattle.std.specs.Prelude.{IfOk, MatchResult, slice_index}
use Rattle.std.specs.Str.{bytes_eq}
use Rattle.std.specs.List.{AllByRecursion, concat}
use Rattle.std.specs.Int.{w32, from_be_bytes}
use Rattle.sha2.specs.Sha256.{sha256}
use Rattle.std.proofs.lemmas.Bool.{eqb-true, eqb-false}
use Rattle.std.proofs.lemmas.List.{append_cancel_left, map-append, take_at, drop_at}
use Rattle.std.proofs.lemmas.List.Elements.{recursion_from_All}
use Rattle.std.proofs.lemmas.Nat.{from_be_bytes-to_be_bytes_4}
use Rattle.wy_kernel.specs.declared.program.Program.{Program}
use Rattle.wy_event.specs.declared.record.Version.{Version}
use Rattle.wy_event.specs.declared.record.Event.{Event}
use Rattle.wy_event.specs.declared.record.Coverage.{Coverage}
use Rattle.wy_event.specs.declared.record.Head.{Head}
use Rattle.wy_event.specs.declared.record.Tail.{Tail}
use Rattle.wy_event.specs.declared.record.Trace.{Trace}
use Rattle.wy_event.specs.Record.{Recorded, recorded}
use Rattle.wy_fitting.specs.Fits.{Fits, AllFit, told}
use Rattle.wy_spelling.specs.Spelling.{number, frame, magic, event_payload, event_frame, coverage_payload, coverage_frame, end_frame, seal_frame, head_payload, head_frame, opening, tail_frames, closing, run_bytes}
use Rattle.wy_payload.specs.declared.fault.DamageRule.{DamageRule}
use Rattle.wy_payload.specs.declared.fault.DamageRule.TheVariants as rule
use Rattle.wy_payload.specs.declared.ranges.Ranges.{Ranges}
use Rattle.wy_payload.specs.declared.event.Written.{Written}
use Rattle.wy_payload.specs.Ranges.{ranges_of}
use Rattle.wy_payload.specs.Reading.{all_of}
use Rattle.wy_payload.specs.Events.{event_at}
use Rattle.wy_kernel.specs.Limits.{steps_limit, trace_limit}
use Rattle.wy_payload.specs.Closing.{coverage_at, tail_at}
use Rattle.wy_frames.specs.declared.error.TraceError.{TraceError}
use Rattle.wy_frames.specs.declared.stage.ReadEvent.{ReadEvent}
use Rattle.wy_frames.specs.declared.stage.Stage.{Stage}
use Rattle.wy_frames.specs.declared.stage.Stage.TheVariants as stages
use Rattle.wy_frames.specs.Frames.{Frame, frame_of}
use Rattle.wy_frames.specs.Progress.{Progress, start, event_in, knowns, Violates, Unsealed, Next, read_as, with_event, with_stage, event_next, coverage_next, end_next, seal_length, seal_next, open_next, covered_next, ended_next, next_at, next_of}
use Rattle.wy_frames.specs.Scan.{Goes, turn_next, is_passed, turn_frame, turn, Leaves, nothing, frame as one_frame}
use Rattle.wy_frames.specs.Heads.{ReadHead, head_of, version_of}
use Rattle.wy_frames.specs.Traces.{IsReadBehind, IsReadAs}
use Rattle.law_reading.specs.Spelled.{AreBytes}
use Rattle.law_reading.proofs.Versions.{version_spelled}
use Rattle.law_reading.proofs.SpelledNumbers.{bytes_behind}
use Rattle.law_reading.proofs.Heads.{IsFrame, whole_frame, head_spelled, head_has_limits, version_read}
use Rattle.law_reading.proofs.Progress.{read_has, tested}
use Rattle.law_reading.proofs.SpelledTraces.{bytes_after, never_goes}
use Rattle.law_reading.proofs.BackEvents.{whole_back}

-- ---- frames of the same bytes are one

pub record SameNumber (n m : ℕ) (a b : List ℕ) : Type 0 where
  pub numbers : n ≡ m
  pub behind : a ≡ b

pub same_number : (n m : ℕ) (a b : List ℕ) → n < 2 ^ 32 → m < 2 ^ 32 → number n ++ a ≡ number m ++ b → SameNumber n m a b
same_number n m a b n-small m-small e =
    let bytes : number n ≡ number m = sym (take_at (number n) a 4 refl) ∙ ap (take 4) e ∙ take_at (number m) b 4 refl in
    record {
      numbers = sym (from_be_bytes-to_be_bytes_4 n n-small) ∙ ap (from_be_bytes w32) bytes ∙ from_be_bytes-to_be_bytes_4 m m-small;
      behind = sym (drop_at (number n) a 4 refl) ∙ ap (drop 4) e ∙ drop_at (number m) b 4 refl;
    }

pub record SameFrame (l m : ℕ) (p q a b : List ℕ) : Type 0 where
  pub letters : l ≡ m
  pub payloads : p ≡ q
  pub behind : a ≡ b

pub same_frame : (l m : ℕ) (p q a b : List ℕ) → length p < 2 ^ 32 → length q < 2 ^ 32 → frame l p ++ a ≡ frame m q ++ b → SameFrame l m p q a b
same_frame l m p q a b p-short q-short e =
    let opened : number (length p) ++ (p ++ a) ≡ number (length q) ++ (q ++ b) = ap (drop 1) e in
    let n = same_number (length p) (length q) (p ++ a) (q ++ b) p-short q-short opened in
    let k = length q in
    record {
      letters = ap (λ l. slice_index l 0) e;
      payloads = sym (take_at p a k n.numbers) ∙ ap (take k) n.behind ∙ take_at q b k refl;
      behind = sym (drop_at p a k n.numbers) ∙ ap (drop k) n.behind ∙ drop_at q b k refl;
    }

-- a frame that was found and one that stands there are one
found : (l : ℕ) (p a rest : List ℕ) (f : Frame) → IsFrame rest f → rest ≡ frame l p ++ a → length rest < 2 ^ 32 → SameFrame f.letter l f.payload p f.rest a
found l p a rest f shown parts short =
    let found-is : frame f.letter f.payload ++ f.rest ≡ rest = ap (λ (w : List ℕ). w ++ f.rest) (sym shown.whole_is) ∙ shown.parts in
    let near : length (frame f.letter f.payload ++ f.rest) < 2 ^ 32 = subst (λ (w : List ℕ). length w < 2 ^ 32) (sym found-is) short in
    let far : length (frame l p ++ a) < 2 ^ 32 = subst (λ (w : List ℕ). length w < 2 ^ 32) parts short in
    same_frame f.letter l f.payload p f.rest a (within f.letter f.payload f.rest near) (within l p a far) (found-is ∙ parts)
  where
    within : (l : ℕ) (p a : List ℕ) → length (frame l p ++ a) < 2 ^ 32 → length p < 2 ^ 32
    within l p a small = omega (arith, small, length-append (frame l p) a, length-append (l ∷ number (length p)) p)

-- ---- what stands and what is left of the frames

abbrev got : List ReadEvent → List Recorded
got placed = map recorded (map event_in placed)

-- the events that stand, and those of frames that are left, are all
record IsLeft (v : Version) (rs : List Recorded) (behind : List ℕ) (some : List Recorded) (rest : List ℕ) (left : List Recorded) : Type 0 where
  fit : AllByRecursion Fits left
  parts : rest ≡ concat (map (event_frame v) left) ++ behind
  all : some ++ map (told v) left ≡ map (told v) rs

abbrev OnWay : Version → List Recorded → List ℕ → Stage → List Recorded → List ℕ → Type 0
OnWay v rs behind stages.Open some rest = (left : List Recorded) × IsLeft v rs behind some rest left
OnWay v rs behind _ some rest = some ≡ map (told v) rs

abbrev Arrives : Version → List Recorded → List ℕ → List ℕ → Next → Type 0
Arrives v rs behind rest next = IfOk next (λ u. OnWay v rs behind u.stage (got u.placed) rest)

-- ---- one frame more

one_more : (v : Version) (placed : List ReadEvent) (w : Written) (end : ℕ) (e : Recorded) (left rs : List Recorded) → recorded w.event ≡ told v e → got placed ++ map (told v) (e ∷ left) ≡ map (told v) rs
    → got (placed ++ record { event = w.event; end = end } ∷ []) ++ map (told v) left ≡ map (told v) rs
one_more v placed w end e left rs is all =
    ap (λ (l : List Event). map recorded l ++ map (told v) left) (map-append event_in placed (record { event = w.event; end = end } ∷ []))
    ∙ ap (λ (l : List Recorded). l ++ map (told v) left) (map-append recorded (map event_in placed) (w.event ∷ []))
    ∙ append_assoc (got placed) (recorded w.event ∷ []) (map (told v) left)
    ∙ ap (λ (x : Recorded). got placed ++ (x ∷ map (told v) left)) is
    ∙ all

event_arrives : (r : Ranges) (s : Progress) (rs : List Recorded) (behind : List ℕ) (f : Frame) (e : Recorded) (left : List Recorded) → Fits e → AllByRecursion Fits left → length (event_payload r.version e) < 2 ^ 32
    → SameFrame f.letter 69 f.payload (event_payload r.version e) f.rest (concat (map (event_frame r.version) left) ++ behind) → got s.placed ++ map (told r.version) (e ∷ left) ≡ map (told r.version) rs
    → Arrives r.version rs behind f.rest (event_next r s f.whole f.payload)
unfolding event_next with_event
event_arrives r s rs behind f e left fit others short same all =
    let back = whole_back r (knowns s) s.output e fit short in
    read_has (with_event s f.whole) (all_of (event_at r (knowns s) s.output f.payload)) (λ w. recorded w.event ≡ told r.version e) (λ u. OnWay r.version rs behind u.stage (got u.placed) f.rest)
    (subst (λ (l : List ℕ). IfOk (all_of (event_at r (knowns s) s.output l)) (λ w. recorded w.event ≡ told r.version e)) (sym same.payloads) back)
    (λ w is. (left, record { fit = others; parts = same.behind; all = one_more r.version s.placed w (length (s.before ++ f.whole)) e left rs is all }))

any_read : {A : Type 0} (f : A → Progress) (x : Result A DamageRule) (Q : Progress → Type 0) → ((a : A) → Q (f a)) → IfOk (read_as f x) Q
any_read f (Ok x) Q h = h x
any_read f (Err r) Q h = tt

coverage_arrives : (v : Version) (r : Ranges) (s : Progress) (rs : List Recorded) (behind : List ℕ) (f : Frame) → got s.placed ≡ map (told v) rs → Arrives v rs behind f.rest (coverage_next r s f.whole f.payload)
unfolding coverage_next with_stage
coverage_arrives v r s rs behind f all = any_read (λ c. with_stage s f.whole (stages.Covered c)) (all_of (coverage_at r.statements (knowns s) f.payload)) _ (λ c. all)

end_arrives : (v : Version) (steps : ℕ) (s : Progress) (c : Coverage) (rs : List Recorded) (behind : List ℕ) (f : Frame) → got s.placed ≡ map (told v) rs → Arrives v rs behind f.rest (end_next steps s c f.whole f.payload)
unfolding end_next with_stage
end_arrives v steps s c rs behind f all = any_read (λ t. with_stage s f.whole (stages.Ended t)) (all_of (tail_at (knowns s) (record { steps = steps; uses = s.uses; output = s.output }) c f.payload)) _ (λ t. all)

seal_arrives : (v : Version) (s : Progress) (t : Tail) (rs : List Recorded) (behind : List ℕ) (f : Frame) → got s.placed ≡ map (told v) rs → Arrives v rs behind f.rest (seal_next s t f.whole f.payload)
unfolding seal_next with_stage
seal_arrives v s t rs behind f all =
    tested (eqb (length f.payload) seal_length) _ (Err (Violates rule.Length)) _ (λ _.
    tested (bytes_eq f.payload (sha256 s.before)) (Ok (with_stage s f.whole (stages.Sealed t (sha256 s.before)))) (Err Unsealed) _ (λ _. all) (λ _. tt)) (λ _. tt)

-- what stands behind the events begins with the letter of a coverage
abbrev IsClosing : List ℕ → Type 0
IsClosing behind = (payload : List ℕ) × (more : List ℕ) × (behind ≡ frame 67 payload ++ more)

open_arrives : (r : Ranges) (s : Progress) (rs : List Recorded) (behind rest : List ℕ) (f : Frame) (left : List Recorded) → IsClosing behind → IsFrame rest f → length rest < 2 ^ 32 → IsLeft r.version rs behind (got s.placed) rest left
    → Arrives r.version rs behind f.rest (open_next r s f)
unfolding open_next event_frame
open_arrives r s rs behind rest f [] closes shown short here =
    let same = found 67 closes.0 closes.1 rest f shown (here.parts ∙ closes.2) short in
    let all : got s.placed ≡ map (told r.version) rs = sym (append-nil (got s.placed)) ∙ here.all in
    tested (eqb f.letter 69) _ _ _ (λ e. absurd (omega (arith, eqb-true f.letter 69 e, same.letters))) (λ _.
    tested (eqb f.letter 67) _ (Err (Violates rule.FrameKind)) _ (λ _. coverage_arrives r.version r s rs behind f all) (λ _. tt))
open_arrives r s rs behind rest f (e ∷ left) closes shown short here =
    let others = concat (map (event_frame r.version) left) in
    let parts : rest ≡ frame 69 (event_payload r.version e) ++ (others ++ behind) = here.parts ∙ append_assoc (frame 69 (event_payload r.version e)) others behind in
    let same = found 69 (event_payload r.version e) (others ++ behind) rest f shown parts short in
    let far : length (frame 69 (event_payload r.version e) ++ (others ++ behind)) < 2 ^ 32 = subst (λ (w : List ℕ). length w < 2 ^ 32) parts short in
    let payload : length (event_payload r.version e) < 2 ^ 32 = omega (arith, far, length-append (frame 69 (event_payload r.version e)) (others ++ behind), length-append (69 ∷ number (length (event_payload r.version e))) (event_payload r.version e)) in
    tested (eqb f.letter 69) _ _ _ (λ _. event_arrives r s rs behind f e left here.fit.0 here.fit.1 payload same here.all)
    (λ e. absurd (eqb-false f.letter 69 e same.letters))

stage_arrives : (r : Ranges) (steps : ℕ) (s : Progress) (stage : Stage) (rs : List Recorded) (behind rest : List ℕ) (f : Frame) → IsClosing behind → IsFrame rest f → length rest < 2 ^ 32 → OnWay r.version rs behind stage (got s.placed) rest
    → Arrives r.version rs behind f.rest (next_at r steps s stage f)
unfolding next_at covered_next ended_next
stage_arrives r steps s stages.Open rs behind rest f closes shown short way = open_arrives r s rs behind rest f way.0 closes shown short way.1
stage_arrives r steps s (stages.Covered c) rs behind rest f closes shown short way = tested (eqb f.letter 84) _ (Err (Violates rule.FrameKind)) _ (λ _. end_arrives r.version steps s c rs behind f way) (λ _. tt)
stage_arrives r steps s (stages.Ended t) rs behind rest f closes shown short way = tested (eqb f.letter 83) _ (Err (Violates rule.FrameKind)) _ (λ _. seal_arrives r.version s t rs behind f way) (λ _. tt)
stage_arrives r steps s (stages.Sealed t seal) rs behind rest f closes shown short way = tt

-- ---- all frames

record Wends (v : Version) (rs : List Recorded) (behind : List ℕ) (s : Progress) (rest : List ℕ) : Type 0 where
  way : OnWay v rs behind s.stage (got s.placed) rest
  rest_bytes : AreBytes rest
  short : length rest < 2 ^ 32

next_wends : (v : Version) (rs : List Recorded) (behind : List ℕ) (s t : Progress) (rest others : List ℕ) (f : Frame) (next : Next) → IsFrame rest f → Wends v rs behind s rest → Arrives v rs behind f.rest next → turn_next s f.rest next ≡ Goes t others → Wends v rs behind t others
next_wends v rs behind s t rest others f (Ok u) shown wends arrives e =
    let same : u ≡ t = cc in
    let left : f.rest ≡ others = cc in
    let bytes : AreBytes f.rest = bytes_after f.whole f.rest (subst AreBytes (sym shown.parts) wends.rest_bytes) in
    let all : length (f.whole ++ f.rest) < 2 ^ 32 = subst (λ (w : List ℕ). length w < 2 ^ 32) (sym shown.parts) wends.short in
    let made : Wends v rs behind u f.rest = record { way = arrives; rest_bytes = bytes; short = omega (arith, all, length-append f.whole f.rest) } in
    subst (λ (l : List ℕ). Wends v rs behind t l) left (subst (λ (u : Progress). Wends v rs behind u f.rest) same made)
next_wends v rs behind s t rest others f (Err (Violates r)) shown wends arrives e = absurd cc
next_wends v rs behind s t rest others f (Err Unsealed) shown wends arrives e = absurd cc

turn_wends : (r : Ranges) (steps : ℕ) (rs : List Recorded) (behind : List ℕ) (s t : Progress) (rest others : List ℕ) → IsClosing behind → Wends r.version rs behind s rest → turn r steps s rest ≡ Goes t others → Wends r.version rs behind t others
unfolding turn
turn_wends r steps rs behind s t rest others closes wends e = by_frame (frame_of rest) refl e
  where
    by_frame : (o : Option Frame) → frame_of rest ≡ o → turn_frame (next_of r steps s) s rest o ≡ Goes t others → Wends r.version rs behind t others
    by_frame Absent is e = absurd (never_goes (length s.before) (is_passed s.stage rest) t others e)
    by_frame (Some f) is e = let shown = whole_frame rest f wends.rest_bytes is in next_wends r.version rs behind s t rest others f (next_of r steps s f) shown wends (stage_arrives r steps s s.stage rs behind rest f closes shown wends.short wends.way) e

leaves_wend : (r : Ranges) (steps : ℕ) (rs : List Recorded) (behind : List ℕ) (from : Progress) (fed : List ℕ) → IsClosing behind → Wends r.version rs behind from fed → (t : Progress) (rest : List ℕ) → Leaves r steps from fed t rest → Wends r.version rs behind t rest
leaves_wend r steps rs behind from fed closes wends _ _ nothing = wends
leaves_wend r steps rs behind from fed closes wends _ _ (one_frame s rest t others before e) = turn_wends r steps rs behind s t rest others closes (leaves_wend r steps rs behind from fed closes wends s rest before) e

start_wends : (v : Version) (head : Head) (rs : List Recorded) (behind fed : List ℕ) → AllFit rs → fed ≡ concat (map (event_frame v) rs) ++ behind → AreBytes fed → length fed < 2 ^ 32 → Wends v rs behind (start v head) fed
unfolding start
start_wends v head rs behind fed fit parts are short = record { way = (rs, record { fit = recursion_from_All Fits rs fit; parts = parts; all = refl }); rest_bytes = are; short = short }

-- ---- a trace

behind_told : (v : Version) (p : Program) (head : Head) (rs : List Recorded) (behind fed : List ℕ) (x : Trace) → IsClosing behind → AllFit rs → fed ≡ concat (map (event_frame v) rs) ++ behind → AreBytes fed → length fed < 2 ^ 32 → IsReadBehind v p head fed (Ok x) → map recorded x.events ≡ map (told v) rs
unfolding ranges_of
behind_told v p head rs behind fed x closes fit parts are short h =
    let t = h.0 in
    let wends = leaves_wend (ranges_of v p) head.steps rs behind (start v head) fed closes (start_wends v head rs behind fed fit parts are short) t h.1.rest h.1.leaves in
    ap (map recorded) h.2.events ∙ subst (λ (stage : Stage). OnWay v rs behind stage (got t.placed) h.1.rest) h.2.sealed wends.way

-- the head that was read, and what stands behind it
record SameHead (h head : Head) (fed behind : List ℕ) : Type 0 where
  payloads : head_payload h ≡ head_payload head
  rests : fed ≡ behind

same_head : (v : Version) (h head : Head) (fed behind : List ℕ) → opening v h ++ fed ≡ opening v head ++ behind → length (opening v h ++ fed) < 2 ^ 32 → SameHead h head fed behind
unfolding opening head_frame
same_head v h head fed behind e short =
    let p = head_payload h in
    let q = head_payload head in
    let far : length ((magic v ++ frame 72 q) ++ behind) < 2 ^ 32 = subst (λ (w : List ℕ). length w < 2 ^ 32) e short in
    let shifted : magic v ++ (frame 72 p ++ fed) ≡ magic v ++ (frame 72 q ++ behind) = sym (append_assoc (magic v) (frame 72 p) fed) ∙ e ∙ append_assoc (magic v) (frame 72 q) behind in
    let same = same_frame 72 72 p q fed behind (within p fed short) (within q behind far) (append_cancel_left (magic v) (frame 72 p ++ fed) (frame 72 q ++ behind) shifted) in
    record { payloads = same.payloads; rests = same.behind }
  where
    within : (p a : List ℕ) → length ((magic v ++ frame 72 p) ++ a) < 2 ^ 32 → length p < 2 ^ 32
    within p a small = omega (arith, small, length-append (magic v ++ frame 72 p) a, length-append (magic v) (frame 72 p), length-append (72 ∷ number (length p)) p)

closing_closes : (end : Tail) (front : List ℕ) → IsClosing (closing end front)
unfolding closing tail_frames coverage_frame
closing_closes end front =
    let seal = seal_frame (sha256 (front ++ tail_frames end)) in
    (coverage_payload end.coverage, end_frame end ++ seal, append_assoc (coverage_frame end.coverage) (end_frame end) seal)

-- what is read
pub record IsBack (v : Version) (head : Head) (rs : List Recorded) (x : Trace) : Type 0 where
  pub events : map recorded x.events ≡ map (told v) rs
  pub payloads : head_payload x.head ≡ head_payload head
  pub steps : x.head.steps ≤ steps_limit

-- a run's own bytes begin with its head
pub run_begins : (v : Version) (head : Head) (rs : List Recorded) (end : Tail) → version_of (run_bytes v head rs end) ≡ v
unfolding opening
run_begins v head rs end =
    let events = concat (map (event_frame v) rs) in
    let behind = closing end (opening v head ++ events) in
    ap version_of (append_assoc (opening v head) events behind ∙ append_assoc (magic v) (head_frame head) (events ++ behind)) ∙ version_spelled v (head_frame head ++ (events ++ behind))

with_head : (v : Version) (p : Program) (head : Head) (rs : List Recorded) (end : Tail) (bytes : List ℕ) (x : Trace) (y : ReadHead) → AreBytes bytes → length bytes ≤ trace_limit → AllFit rs → bytes ≡ run_bytes v head rs end → head_of bytes ≡ Ok y → v ≡ y.2
    → IsReadBehind y.2 p y.0 (drop y.1 bytes) (Ok x) → IsBack v head rs x
with_head v p head rs end bytes x y are small fit parts is same-version read =
    let events = concat (map (event_frame v) rs) in
    let behind = closing end (opening v head ++ events) in
    let fed = drop y.1 bytes in
    let spelled : take y.1 bytes ≡ opening v y.0 = head_spelled bytes y.0 y.1 y.2 are is ∙ ap (λ (w : Version). opening w y.0) (sym same-version) in
    let split : opening v y.0 ++ fed ≡ bytes = ap (λ l. l ++ fed) (sym spelled) ∙ take-append-drop y.1 bytes in
    let both : opening v y.0 ++ fed ≡ opening v head ++ (events ++ behind) = split ∙ parts ∙ append_assoc (opening v head) events behind in
    let short : length (opening v y.0 ++ fed) < 2 ^ 32 = subst (λ (w : List ℕ). length w < 2 ^ 32) (sym split) (omega (arith, small)) in
    let same = same_head v y.0 head fed (events ++ behind) both short in
    let head-is : x.head ≡ y.0 = read.2.head_is in
    let here : IsReadBehind v p y.0 fed (Ok x) = subst (λ (w : Version). IsReadBehind w p y.0 fed (Ok x)) (sym same-version) read in
    record {
      events = behind_told v p y.0 rs behind fed x (closing_closes end (opening v head ++ events)) fit same.rests (bytes_behind y.1 bytes are) (omega (arith, short, length-append (opening v y.0) fed)) here;
      payloads = ap head_payload head-is ∙ same.payloads;
      steps = subst (λ (h : Head). h.steps ≤ steps_limit) (sym head-is) (head_has_limits bytes y.0 y.1 y.2 is).steps;
    }

pub run_read_back : (v : Version) (p : Program) (head : Head) (rs : List Recorded) (end : Tail) (bytes : List ℕ) (x : Trace) → AreBytes bytes → length bytes ≤ trace_limit → AllFit rs → bytes ≡ run_bytes v head rs end → IsReadAs p bytes (Ok x) → IsBack v head rs x
run_read_back v p head rs end bytes x are small fit parts read = by (head_of bytes) refl read
  where
    by : (h : Result ReadHead TraceError) → head_of bytes ≡ h → MatchResult h (λ y. IsReadBehind y.2 p y.0 (drop y.1 bytes) (Ok x)) (λ e. Ok x ≡ Err e) → IsBack v head rs x
    by (Ok y) is behind = with_head v p head rs end bytes x y are small fit parts is (sym (run_begins v head rs end) ∙ ap version_of (sym parts) ∙ version_read bytes y is) behind
    by (Err e) is behind = absurd cc
