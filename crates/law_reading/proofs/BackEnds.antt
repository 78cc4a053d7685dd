-- The head of a run's own trace is read back, and so is what its bytes tell of its end.
use Rattle.std.proofs.Common.{◌≡◌, ℕ, ◌<◌, ◌≤◌, ◌^◌, Bool, true, false, cond, eqb, List, [], ◌∷◌, ◌++◌, map, length, take, drop, refl, sym, ap, ◌∙◌, subst, append_assoc, arith, length-append}
use Rattle.std.specs.List.{concat}
use Rattle.std.proofs.lemmas.List.{append_cancel_left, take_at, drop_at}
use Rattle.std.proofs.lemmas.List.Concat.{flat_map-cons}
use Rattle.std.proofs.lemmas.List.Folds.{map_fixed}
use Rattle.sha2.specs.Sha256.{sha256}
use Rattle.sha2.proofs.Facts256.{length-sha256}
use Rattle.wy_value.specs.declared.value.Value.{Value}
use Rattle.wy_value.specs.declared.value.Value.TheVariants as val
use Rattle.wy_event.specs.declared.record.Version.{Version}
use Rattle.wy_event.specs.declared.record.Version.TheVariants as version
use Rattle.wy_event.specs.declared.record.Kind.{Kind}
use Rattle.wy_event.specs.declared.record.Kind.TheVariants as kind
use Rattle.wy_event.specs.declared.record.Event.{Event}
use Rattle.wy_event.specs.declared.record.Head.{Head}
use Rattle.wy_event.specs.declared.record.Tail.{Tail}
use Rattle.wy_event.specs.declared.record.Trace.{Trace}
use Rattle.wy_event.specs.Record.{Recorded, recorded}
use Rattle.wy_fitting.specs.Fits.{told, told_arm, told_truth, told_units, told_value}
use Rattle.wy_kernel.specs.Limits.{trace_limit}
use Rattle.wy_spelling.specs.Spelling.{number, frame, magic, value_bytes, content_bytes, origin_bytes, event_payload, event_frame, events_bytes, head_payload, head_frame, opening, tail_frames, closing, seal_frame, sealed, trace_bytes, run_bytes}
use Rattle.law_reading.specs.Spelled.{RecordedEventsAreTold, RecordedTracesAreReadBack, RecordedHeadsAreReadBack, RecordedEndsAreTold}
use Rattle.law_reading.proofs.SpelledTraces.{whole_trace}
use Rattle.wy_frames.specs.Heads.{version_of}
use Rattle.law_reading.proofs.BackTraces.{same_number, run_begins, run_read_back}

pub events_told : RecordedEventsAreTold
events_told v p head rs end bytes x are small fit parts read = (run_read_back v p head rs end bytes x are small fit parts read).events

pub events_back : RecordedTracesAreReadBack
events_back v p head rs end bytes x are small fit parts read all = events_told v p head rs end bytes x are small fit parts read ∙ map_fixed (told v) rs all

-- ---- the head

same_input : (h head : Head) → h.steps ≡ head.steps → h.input ≡ head.input → h.source ≡ head.source → h ≡ head
same_input h head steps input source i = record { steps = steps i; input = input i; source = source i }

same_heads : (h head : Head) → h.steps < 2 ^ 32 → head.steps < 2 ^ 32 → length (head_payload h) < 2 ^ 32 → head_payload h ≡ head_payload head → h ≡ head
unfolding head_payload
same_heads h head h-steps steps short e =
    let a = number (length h.source) ++ h.source in
    let b = number (length head.source) ++ head.source in
    let one = same_number h.steps head.steps (number (length h.input) ++ (h.input ++ a)) (number (length head.input) ++ (head.input ++ b)) h-steps steps e in
    let near : length (number h.steps ++ (number (length h.input) ++ (h.input ++ a))) < 2 ^ 32 = short in
    let far : length (number head.steps ++ (number (length head.input) ++ (head.input ++ b))) < 2 ^ 32 = subst (λ (l : List ℕ). length l < 2 ^ 32) e short in
    let two = same_number (length h.input) (length head.input) (h.input ++ a) (head.input ++ b) (within h.steps h.input h.source near) (within head.steps head.input head.source far) one.behind in
    let n = length head.input in
    let input : h.input ≡ head.input = sym (take_at h.input a n two.numbers) ∙ ap (take n) two.behind ∙ take_at head.input b n refl in
    let behind : a ≡ b = sym (drop_at h.input a n two.numbers) ∙ ap (drop n) two.behind ∙ drop_at head.input b n refl in
    same_input h head one.numbers input (sym (drop_at (number (length h.source)) h.source 4 refl) ∙ ap (drop 4) behind ∙ drop_at (number (length head.source)) head.source 4 refl)
  where
    within : (steps : ℕ) (input source : List ℕ) → length (number steps ++ (number (length input) ++ (input ++ (number (length source) ++ source)))) < 2 ^ 32 → length input < 2 ^ 32
    within steps input source small = omega (arith, small, length-append (number steps) (number (length input) ++ (input ++ (number (length source) ++ source))), length-append (number (length input)) (input ++ (number (length source) ++ source)), length-append input (number (length source) ++ source))

payload_short : (v : Version) (head : Head) (more bytes : List ℕ) → bytes ≡ opening v head ++ more → length bytes ≤ trace_limit → length (head_payload head) < 2 ^ 32
unfolding opening head_frame
payload_short v head more bytes parts small =
    let q = head_payload head in
    let whole : length (magic v ++ frame 72 q ++ more) ≤ trace_limit = subst (λ (l : List ℕ). length l ≤ trace_limit) parts small in
    omega (arith, whole, length-append (magic v ++ frame 72 q) more, length-append (magic v) (frame 72 q), length-append (72 ∷ number (length q)) q)

pub heads_back : RecordedHeadsAreReadBack
heads_back v p head rs end bytes x are small fit parts read steps =
    let back = run_read_back v p head rs end bytes x are small fit parts read in
    let events = concat (map (event_frame v) rs) in
    let behind = closing end (opening v head ++ events) in
    let short = payload_short v head (events ++ behind) bytes (parts ∙ append_assoc (opening v head) events behind) small in
    same_heads x.head head (omega (arith, back.steps)) steps (subst (λ (l : List ℕ). length l < 2 ^ 32) (sym back.payloads) short) back.payloads

-- ---- the end

seal_length : (bytes : List ℕ) → length (seal_frame (sha256 bytes)) ≡ 37
unfolding seal_frame
seal_length bytes = omega (arith, length-append (83 ∷ number (length (sha256 bytes))) (sha256 bytes), length-sha256 bytes)

same_sealed : (a b : List ℕ) → sealed a ≡ sealed b → a ≡ b
unfolding sealed
same_sealed a b e =
    let s = seal_frame (sha256 a) in
    let t = seal_frame (sha256 b) in
    let all : length (a ++ s) ≡ length (b ++ t) = ap length e in
    let same : length a ≡ length b = omega (arith, all, length-append a s, length-append b t, seal_length a, seal_length b) in
    sym (take_at a s (length b) same) ∙ ap (take (length b)) e ∙ take_at b t (length b) refl

-- what bytes tell of a value is spelled as it is
arm_told : (v : Version) (x : Value) → value_bytes v (told_arm v x) ≡ value_bytes v x
unfolding value_bytes
arm_told version.One (val.Arm n) = by (eqb n 1)
  where
    by : (b : Bool) → ◌≡◌ {A = List ℕ} (1 ∷ cond (eqb (cond b 1 0) 1) 1 0 ∷ []) (1 ∷ cond b 1 0 ∷ [])
    by true = refl
    by false = refl
arm_told version.One (val.Bool b) = by b
  where
    by : (b : Bool) → ◌≡◌ {A = List ℕ} (1 ∷ cond (eqb (cond b 1 0) 1) 1 0 ∷ []) (1 ∷ cond b 1 0 ∷ [])
    by true = refl
    by false = refl
arm_told version.One _ = refl
arm_told version.Two x = refl

truth_told : (v : Version) (x : Value) → value_bytes v (told_truth v x) ≡ value_bytes v x
unfolding value_bytes
truth_told version.One (val.Arm n) = refl
truth_told version.One _ = refl
truth_told version.Two x = refl

content_told : (v : Version) (k : Kind) (x : Value) (units : List ℕ) → content_bytes v k (told_value v k x) (told_units k units) ≡ content_bytes v k x units
content_told v kind.Text x units = refl
content_told v kind.Test x units = arm_told v x
content_told v _ x units = truth_told v x

frame_told : (v : Version) (e : Recorded) → event_frame v (told v e) ≡ event_frame v e
unfolding event_frame event_payload origin_bytes told
frame_told v e = rw (content_told v e.kind e.value e.units) refl

frames_told : (v : Version) (rs : List Recorded) → concat (map (event_frame v) (map (told v) rs)) ≡ concat (map (event_frame v) rs)
frames_told v [] = refl
frames_told v (e ∷ rs) = ap (λ (l : List ℕ). l ++ concat (map (event_frame v) (map (told v) rs))) (frame_told v e) ∙ ap (λ (l : List ℕ). event_frame v e ++ l) (frames_told v rs)

events_frames : (v : Version) (events : List Event) → events_bytes v events ≡ concat (map (event_frame v) (map recorded events))
unfolding events_bytes
events_frames v [] = refl
events_frames v (e ∷ events) = flat_map-cons (λ (e : Event). event_frame v (recorded e)) e events ∙ ap (λ (l : List ℕ). event_frame v (recorded e) ++ l) (events_frames v events)

same_opening : (v : Version) (h head : Head) → head_payload h ≡ head_payload head → opening v h ≡ opening v head
unfolding opening head_frame
same_opening v h head e = ap (λ (q : List ℕ). magic v ++ frame 72 q) e

run_sealed : (v : Version) (head : Head) (rs : List Recorded) (end : Tail) → run_bytes v head rs end ≡ sealed (opening v head ++ (concat (map (event_frame v) rs) ++ tail_frames end))
unfolding closing sealed
run_sealed v head rs end =
    let events = concat (map (event_frame v) rs) in
    let front = opening v head ++ events in
    sym (append_assoc front (tail_frames end) (seal_frame (sha256 (front ++ tail_frames end))))
    ∙ ap (λ (l : List ℕ). l ++ seal_frame (sha256 l)) (append_assoc (opening v head) events (tail_frames end))

trace_sealed : (v : Version) (x : Trace) → trace_bytes v x ≡ sealed (opening v x.head ++ (events_bytes v x.events ++ tail_frames x.tail))
unfolding trace_bytes
trace_sealed v x = refl

pub ends_told : RecordedEndsAreTold
ends_told v p head rs end bytes x are small fit parts read =
    let back = run_read_back v p head rs end bytes x are small fit parts read in
    let events = concat (map (event_frame v) rs) in
    let is : version_of bytes ≡ v = ap version_of parts ∙ run_begins v head rs end in
    let same : opening v x.head ++ (events_bytes v x.events ++ tail_frames x.tail) ≡ opening v head ++ (events ++ tail_frames end) =
    same_sealed _ _ (sym (trace_sealed v x) ∙ ap (λ (w : Version). trace_bytes w x) (sym is) ∙ sym (whole_trace p bytes x are read) ∙ parts ∙ run_sealed v head rs end) in
    let events-are : events_bytes v x.events ≡ events = events_frames v x.events ∙ ap (λ (l : List Recorded). concat (map (event_frame v) l)) back.events ∙ frames_told v rs in
    let moved : opening v head ++ (events ++ tail_frames x.tail) ≡ opening v head ++ (events ++ tail_frames end) =
    ap (λ (l : List ℕ). l ++ (events ++ tail_frames x.tail)) (sym (same_opening v x.head head back.payloads)) ∙ ap (λ (l : List ℕ). opening v x.head ++ (l ++ tail_frames x.tail)) (sym events-are) ∙ same in
    append_cancel_left events (tail_frames x.tail) (tail_frames end) (append_cancel_left (opening v head) (events ++ tail_frames x.tail) (events ++ tail_frames end) moved)
