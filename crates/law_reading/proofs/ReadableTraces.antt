-- A whole trace is read, and not refused.
use Rattle.std.proofs.Common.{◌≡◌, ℕ, ◌+◌, ◌<◌, ◌≤◌, ◌^◌, List, [], ◌∷◌, ◌++◌, map, length, drop, Result, Ok, Err, refl, sym, ap, ◌∙◌, subst, append_assoc, arith, length-append}
use Rattle.std.specs.Prelude.{MatchResult}
use Rattle.std.specs.List.{AllByRecursion, concat, flat_map}
use Rattle.std.proofs.lemmas.List.{drop_at, length-map}
use Rattle.std.proofs.lemmas.List.Concat.{flat_map-cons}
use Rattle.std.proofs.lemmas.List.Elements.{recursion_from_All}
use Rattle.sha2.specs.Sha256.{sha256}
use Rattle.wy_kernel.specs.declared.program.Program.{Program}
use Rattle.wy_event.specs.declared.record.Version.{Version}
use Rattle.wy_event.specs.declared.record.Head.{Head}
use Rattle.wy_event.specs.declared.record.Tail.{Tail}
use Rattle.wy_event.specs.declared.record.Trace.{Trace}
use Rattle.wy_event.specs.declared.record.Use.{Use}
use Rattle.wy_event.specs.declared.record.Use.TheVariants as used
use Rattle.wy_event.specs.Record.{Recorded, recorded}
use Rattle.wy_fitting.specs.Fits.{Fits}
use Rattle.wy_kernel.specs.Limits.{trace_limit}
use Rattle.wy_spelling.specs.Spelling.{number, frame, magic, origin_bytes, slot_bytes, content_bytes, use_bytes, uses_bytes, event_payload, event_frame, coverage_payload, coverage_frame, end_frame, seal_frame, head_payload, head_frame, opening, tail_frames, closing, run_bytes}
use Rattle.wy_payload.specs.declared.known.Known.{Known}
use Rattle.wy_payload.specs.Ranges.{ranges_of}
use Rattle.wy_frames.specs.declared.error.TraceError.{TraceError}
use Rattle.wy_frames.specs.declared.error.TraceError.TheVariants.{Cut, Damaged, BadSeal, NoMemory}
use Rattle.wy_frames.specs.Frames.{frame_of}
use Rattle.wy_frames.specs.Progress.{Progress, start, event_in, knowns}
use Rattle.wy_frames.specs.Scan.{nothing}
use Rattle.wy_frames.specs.Heads.{ReadHead, agreeing, magic_length, version_of, read_head_as, head_in, behind_magic, head_of}
use Rattle.wy_frames.specs.Traces.{AllStand, IsReadBehind, IsReadAs, ReadsAs}
use Rattle.wy_spelling.proofs.Lengths.{magic_long}
use Rattle.law_reading.proofs.Versions.{version_spelled}
use Rattle.law_reading.proofs.Heads.{agrees_all}
use Rattle.law_reading.proofs.Answered.{one_reading}
use Rattle.law_reading.specs.Readable.{HeadMayStand, EndMayStand, IsReadable, known_in, uses_in}
use Rattle.law_reading.specs.WithinRules.{IsRead, TracesWithinRulesAreRead, TracesWithinRulesAreNotRefused}
use Rattle.law_reading.proofs.Ends.{whole_head}
use Rattle.law_reading.proofs.Closings.{MayClose, AllClosed, closed, nothing_waits}
use Rattle.law_reading.proofs.Frames.{frame_length, frame_found}
use Rattle.law_reading.proofs.Runs.{told_all, Stood, start_stood, knowns_are, Kept, events_stand}

-- ---- the head

pub head_read : (v : Version) (head : Head) (fed : List ℕ) → HeadMayStand head → length (head_payload head) < 2 ^ 32 → head_of (opening v head ++ fed) ≡ Ok (head, length (opening v head), v)
unfolding head_of opening head_frame
head_read v head fed may short =
    let payload = head_payload head in
    let whole = frame 72 payload in
    let bytes = opening v head ++ fed in
    let parts : bytes ≡ magic v ++ (whole ++ fed) = append_assoc (magic v) whole fed in
    let behind : drop magic_length bytes ≡ whole ++ fed = ap (drop magic_length) parts ∙ drop_at (magic v) (whole ++ fed) magic_length (magic_long v) in
    let agree : agreeing (magic v) bytes ≡ magic_length = ap (agreeing (magic v)) parts ∙ agrees_all (magic v) (whole ++ fed) ∙ magic_long v in
    let is : version_of bytes ≡ v = ap version_of parts ∙ version_spelled v (whole ++ fed) in
    ap (λ (w : Version). behind_magic w (agreeing (magic w) bytes) bytes) is
    ∙ ap (λ n. behind_magic v n bytes) agree
    ∙ ap (λ l. head_in v (length bytes) (frame_of l)) behind
    ∙ ap (head_in v (length bytes)) (frame_found 72 payload fed short)
    ∙ ap (read_head_as v (magic_length + length whole)) (whole_head head may)
    ∙ ap (λ n. Ok (head, n + length whole, v)) (sym (magic_long v))
    ∙ ap (λ n. Ok (head, n, v)) (sym (length-append (magic v) whole))

-- ---- lengths

use_is_some : (u : Use) → 1 ≤ length (use_bytes u)
unfolding use_bytes
use_is_some (used.Place slot moment) = omega arith
use_is_some (used.Value event) = omega arith
use_is_some (used.Choice event) = omega arith

uses_shorter : (uses : List Use) → length uses ≤ length (flat_map use_bytes uses)
uses_shorter [] = omega arith
uses_shorter (u ∷ uses) = rw (flat_map-cons use_bytes u uses, length-append (use_bytes u) (flat_map use_bytes uses)) (omega (arith, use_is_some u, uses_shorter uses))

event_longer : (v : Version) (e : Recorded) → length e.uses ≤ length (event_frame v e)
unfolding event_frame event_payload uses_bytes
event_longer v e =
    let uses = uses_bytes e.uses in
    let content = content_bytes v e.kind e.value e.units in
    let slot = slot_bytes e.slot in
    omega (arith, uses_shorter e.uses, frame_length 69 (event_payload v e), length-append (origin_bytes e) (slot ++ (content ++ uses)), length-append slot (content ++ uses), length-append content uses, length-append (number (length e.uses)) (flat_map use_bytes e.uses))

pub uses_within : (v : Version) (rs : List Recorded) → uses_in rs ≤ length (concat (map (event_frame v) rs))
unfolding uses_in
uses_within v [] = omega arith
uses_within v (e ∷ rs) = omega (arith, event_longer v e, uses_within v rs, length-append (event_frame v e) (concat (map (event_frame v) rs)))

-- ---- a trace

run_parts : (v : Version) (head : Head) (rs : List Recorded) (end : Tail) → run_bytes v head rs end ≡ opening v head ++ (concat (map (event_frame v) rs) ++ closing end (opening v head ++ concat (map (event_frame v) rs)))
run_parts v head rs end = append_assoc (opening v head) (concat (map (event_frame v) rs)) (closing end (opening v head ++ concat (map (event_frame v) rs)))

head_short : (v : Version) (head : Head) (fed : List ℕ) → length (opening v head ++ fed) ≤ trace_limit → length (head_payload head) < 2 ^ 32
unfolding opening head_frame
head_short v head fed small = omega (arith, small, length-append (magic v ++ frame 72 (head_payload head)) fed, length-append (magic v) (frame 72 (head_payload head)), frame_length 72 (head_payload head))

coverage_short : (end : Tail) (front : List ℕ) → length (closing end front) ≤ trace_limit → length (coverage_payload end.coverage) < 2 ^ 32
unfolding closing tail_frames coverage_frame
coverage_short end front small =
    let c = frame 67 (coverage_payload end.coverage) in
    let e = end_frame end in
    let seal = seal_frame (sha256 (front ++ (c ++ e))) in
    omega (arith, small, length-append (c ++ e) seal, length-append c e, frame_length 67 (coverage_payload end.coverage))

statements_are : (v : Version) (p : Program) → (ranges_of v p).statements ≡ p.statements
unfolding ranges_of
statements_are v p = refl

-- behind the head
closes : (v : Version) (p : Program) (head : Head) (rs : List Recorded) (end : Tail) (s : Progress) → IsReadable v p head rs end → Stood (ranges_of v p) head rs s → length (concat (map (event_frame v) rs)) ≤ trace_limit → length (coverage_payload end.coverage) < 2 ^ 32 → MayClose (ranges_of v p) head.steps s end
unfolding ranges_of
closes v p head rs end s keeps stood small short =
    let known = knowns_are (ranges_of v p) head rs s stood in
    let count : length (knowns s) ≡ length rs = ap length known ∙ length-map rs known_in in
    let counts = keeps.counts in
    let may : EndMayStand (ranges_of v p).statements head.steps (knowns s) end = subst (λ (n : ℕ). EndMayStand n head.steps (knowns s) end) (sym (statements_are v p)) (subst (λ (l : List Known). EndMayStand p.statements head.steps l end) (sym known) keeps.end_stands) in
    record {
      few = omega (arith, count, keeps.few);
      little = keeps.head_stands.steps;
      may = may;
      counts = record {
        events = counts.events ∙ sym count;
        uses = counts.uses ∙ sym stood.uses;
        output = counts.output ∙ sym stood.output;
        small_events = omega (arith, counts.events, keeps.few);
        small_uses = omega (arith, counts.uses, uses_within v rs, small);
        small_output = omega (arith, counts.output, keeps.little_output);
      };
      short = short;
      open_stage = stood.open_stage;
    }

behind_closed : (v : Version) (p : Program) (head : Head) (rs : List Recorded) (end : Tail) → let front = opening v head ++ concat (map (event_frame v) rs) in let fed = concat (map (event_frame v) rs) ++ closing end front in IsReadable v p head rs end → length fed ≤ trace_limit
    → (s : Progress) × Stood (ranges_of v p) head rs s × AllClosed (ranges_of v p) head.steps (start v head) fed s.placed end
unfolding ranges_of
behind_closed v p head rs end keeps small =
    let r = ranges_of v p in
    let front = opening v head ++ concat (map (event_frame v) rs) in
    let behind = closing end front in
    let fed = concat (map (event_frame v) rs) ++ behind in
    let kept : Kept r rs = record { few = keeps.few; may = keeps.events_stand; little = keeps.little_output } in
    let all = events_stand r head.steps head (start v head) fed behind rs [] (start v head) kept (recursion_from_All Fits rs keeps.fit) small (start_stood r head) nothing in
    let s = all.standing in
    let lengths = length-append (concat (map (event_frame v) rs)) behind in
    let short = coverage_short end front (omega (arith, small, lengths)) in
    (s, all.stood, closed r head.steps (start v head) fed front s end all.stood.before (closes v p head rs end s keeps all.stood (omega (arith, small, lengths)) short) all.leaves)

trace_read : (v : Version) (p : Program) (head : Head) (rs : List Recorded) (end : Tail) (bytes fed : List ℕ) (s : Progress) → bytes ≡ opening v head ++ fed → head_of bytes ≡ Ok (head, length (opening v head), v) → AllByRecursion Fits rs → Stood (ranges_of v p) head rs s → AllClosed (ranges_of v p) head.steps (start v head) fed s.placed end → IsRead v p head rs end bytes
unfolding ranges_of
trace_read v p head rs end bytes fed s parts read fit stood all =
    let trace : Trace = record { head = head; events = map event_in s.placed; tail = end } in
    let rest : drop (length (opening v head)) bytes ≡ fed = ap (drop (length (opening v head))) parts ∙ drop_at (opening v head) fed (length (opening v head)) refl in
    let stand : AllStand v p head fed all.standing = record { rest = []; leaves = all.leaves; waits = nothing_waits (ranges_of v p) head.steps all.standing end all.seal all.sealed } in
    let behind : IsReadBehind v p head fed (Ok trace) = (all.standing, stand, record { head_is = refl; events = ap (map event_in) (sym all.placed_are); seal = all.seal; sealed = all.sealed }) in
    record {
      trace = trace;
      read = subst (λ (h : Result ReadHead TraceError). MatchResult h (λ x. IsReadBehind x.2 p x.0 (drop x.1 bytes) (Ok trace)) (λ e. Ok trace ≡ Err e)) (sym read) (subst (λ (l : List ℕ). IsReadBehind v p head l (Ok trace)) (sym rest) behind);
      head_is = refl;
      events_are = ap (map recorded) stood.events ∙ told_all v rs fit;
      tail_is = refl;
    }

pub traces_read : TracesWithinRulesAreRead
traces_read v p head rs end bytes small same keeps =
    let front = opening v head ++ concat (map (event_frame v) rs) in
    let fed = concat (map (event_frame v) rs) ++ closing end front in
    let parts : bytes ≡ opening v head ++ fed = same ∙ run_parts v head rs end in
    let within : length (opening v head ++ fed) ≤ trace_limit = subst (λ (l : List ℕ). length l ≤ trace_limit) parts small in
    let all = behind_closed v p head rs end keeps (omega (arith, within, length-append (opening v head) fed)) in
    let read = ap head_of parts ∙ head_read v head fed keeps.head_stands (head_short v head fed within) in
    trace_read v p head rs end bytes fed all.0 parts read (recursion_from_All Fits rs keeps.fit) all.1 all.2

-- ---- no refusal

never : (e : TraceError) (x : Trace) → ◌≡◌ {A = Result Trace TraceError} (Ok x) (Err e) → ⊥
never e x is = cc

not_refused : (p : Program) (bytes : List ℕ) (x : Trace) (e : TraceError) → IsReadAs p bytes (Ok x) → ReadsAs (Err e) p bytes → e ≡ NoMemory
not_refused p bytes x NoMemory read refused = refl
not_refused p bytes x (Cut byte) read refused = absurd (never (Cut byte) x (one_reading p bytes (Ok x) (Err (Cut byte)) tt tt read refused))
not_refused p bytes x (Damaged byte rule) read refused = absurd (never (Damaged byte rule) x (one_reading p bytes (Ok x) (Err (Damaged byte rule)) tt tt read refused))
not_refused p bytes x BadSeal read refused = absurd (never BadSeal x (one_reading p bytes (Ok x) (Err BadSeal) tt tt read refused))

pub traces_not_refused : TracesWithinRulesAreNotRefused
traces_not_refused v p head rs end bytes small same keeps e refused =
    let read = traces_read v p head rs end bytes small same keeps in
    not_refused p bytes read.trace e read.read refused
