-- The events of a run stand, one behind another.
use Rattle.std.proofs.Common.{◌≡◌, ℕ, ◌+◌, ◌<◌, ◌≤◌, ◌^◌, List, [], ◌∷◌, ◌++◌, map, length, Some, refl, sym, ap, ◌∙◌, subst, append_assoc, append-nil, arith, length-append}
use Rattle.std.specs.Prelude.{slice_get}
use Rattle.std.specs.List.{AllByRecursion, concat}
use Rattle.std.proofs.lemmas.List.{map-append, take_at, length-map}
use Rattle.wy_event.specs.declared.record.Version.{Version}
use Rattle.wy_event.specs.declared.record.Event.{Event}
use Rattle.wy_event.specs.declared.record.Head.{Head}
use Rattle.wy_event.specs.Record.{Recorded, recorded}
use Rattle.wy_fitting.specs.Fits.{Fits, told}
use Rattle.wy_spelling.specs.Spelling.{event_payload, event_frame, opening}
use Rattle.wy_payload.specs.declared.ranges.Ranges.{Ranges}
use Rattle.wy_payload.specs.declared.known.Known.{Known}
use Rattle.wy_payload.specs.Ranges.{known_of}
use Rattle.wy_payload.specs.Values.{output_of}
use Rattle.wy_kernel.specs.Limits.{event_limit, output_limit, trace_limit}
use Rattle.wy_frames.specs.declared.stage.ReadEvent.{ReadEvent}
use Rattle.wy_frames.specs.declared.stage.Stage.TheVariants as stages
use Rattle.wy_frames.specs.Progress.{Progress, start, event_in, known_as_placed, knowns, with_event}
use Rattle.wy_frames.specs.Scan.{Leaves, frame as one_frame}
use Rattle.law_reading.specs.Readable.{known_in, known_before, MayStand, AllMayStand, printed, uses_in}
use Rattle.law_reading.proofs.ReadableEvents.{event_of, written_of, Behind, event_told, event_known}
use Rattle.law_reading.proofs.Frames.{frame_length, event_goes}

-- ---- lists of records

known_placed : (placed : List ReadEvent) → map known_as_placed placed ≡ map known_of (map event_in placed)
known_placed [] = refl
known_placed (x ∷ placed) = ap (λ l. known_of x.event ∷ l) (known_placed placed)

known_all : (v : Version) (rs : List Recorded) → map known_of (map (event_of v) rs) ≡ map known_in rs
known_all v [] = refl
known_all v (e ∷ rs) = ap (λ k. k ∷ map known_of (map (event_of v) rs)) (event_known v e) ∙ ap (λ l. known_in e ∷ l) (known_all v rs)

pub told_all : (v : Version) (rs : List Recorded) → AllByRecursion Fits rs → map recorded (map (event_of v) rs) ≡ map (told v) rs
told_all v [] fit = refl
told_all v (e ∷ rs) fit = ap (λ k. k ∷ map recorded (map (event_of v) rs)) (event_told v e fit.0) ∙ ap (λ l. told v e ∷ l) (told_all v rs fit.1)

frames_more : (v : Version) (rs : List Recorded) (e : Recorded) → concat (map (event_frame v) (rs ++ e ∷ [])) ≡ concat (map (event_frame v) rs) ++ event_frame v e
frames_more v [] e = append-nil (event_frame v e)
frames_more v (x ∷ rs) e = ap (λ l. event_frame v x ++ l) (frames_more v rs e) ∙ sym (append_assoc (event_frame v x) (concat (map (event_frame v) rs)) (event_frame v e))

pub uses_more : (rs : List Recorded) (e : Recorded) → uses_in (rs ++ e ∷ []) ≡ uses_in rs + length e.uses
unfolding uses_in
uses_more [] e = omega arith
uses_more (x ∷ rs) e = omega (arith, uses_more rs e)

pub printed_append : (r : Ranges) (earlier : List Known) (a b : List Recorded) → printed r earlier (a ++ b) ≡ printed r earlier a + printed r (earlier ++ map known_in a) b
unfolding printed
printed_append r earlier [] b = let same : printed r (earlier ++ []) b ≡ printed r earlier b = ap (λ (l : List Known). printed r l b) (append-nil earlier) in omega (arith, same)
printed_append r earlier (e ∷ a) b =
    let now = earlier ++ known_in e ∷ [] in
    let same : printed r (now ++ map known_in a) b ≡ printed r (earlier ++ map known_in (e ∷ a)) b = ap (λ (l : List Known). printed r l b) (append_assoc earlier (known_in e ∷ []) (map known_in a)) in
    omega (arith, printed_append r now a b, same)

printed_more : (r : Ranges) (rs : List Recorded) (e : Recorded) (left : List Recorded) → printed r [] rs + output_of r (map known_in rs) e.kind e.site e.value ≤ printed r [] (rs ++ e ∷ left)
unfolding printed
printed_more r rs e left = omega (arith, printed_append r [] rs (e ∷ left))

pub printed_one : (r : Ranges) (rs : List Recorded) (e : Recorded) → printed r [] (rs ++ e ∷ []) ≡ printed r [] rs + output_of r (map known_in rs) e.kind e.site e.value
unfolding printed
printed_one r rs e = omega (arith, printed_append r [] rs (e ∷ []))

at_end : (rs : List Recorded) (e : Recorded) (left : List Recorded) → slice_get (rs ++ e ∷ left) (length rs) ≡ Some e
at_end [] e left = refl
at_end (x ∷ rs) e left = at_end rs e left

-- ---- what stands

-- the frames of these records stand
pub record Stood (r : Ranges) (head : Head) (done : List Recorded) (s : Progress) : Type 0 where
  pub before : s.before ≡ opening r.version head ++ concat (map (event_frame r.version) done)
  pub events : map event_in s.placed ≡ map (event_of r.version) done
  pub uses : s.uses ≡ uses_in done
  pub output : s.output ≡ printed r [] done
  pub open_stage : s.stage ≡ stages.Open

pub start_stood : (r : Ranges) (head : Head) → Stood r head [] (start r.version head)
unfolding start uses_in printed
start_stood r head = record { before = sym (append-nil (opening r.version head)); events = refl; uses = refl; output = refl; open_stage = refl }

pub knowns_are : (r : Ranges) (head : Head) (done : List Recorded) (s : Progress) → Stood r head done s → knowns s ≡ map known_in done
knowns_are r head done s h = known_placed s.placed ∙ ap (map known_of) h.events ∙ known_all r.version done

more_stood : (r : Ranges) (head : Head) (done : List Recorded) (s : Progress) (e : Recorded) → Stood r head done s → Stood r head (done ++ e ∷ []) (with_event s (event_frame r.version e) (written_of r (knowns s) s.output e))
unfolding with_event
more_stood r head done s e h =
    let bytes = event_frame r.version e in
    let placed : ReadEvent = record { event = event_of r.version e; end = length (s.before ++ bytes) } in
    let prints : List Known → ℕ = λ earlier. output_of r earlier e.kind e.site e.value in
    record {
      before = ap (λ l. l ++ bytes) h.before ∙ append_assoc (opening r.version head) (concat (map (event_frame r.version) done)) bytes ∙ ap (λ l. opening r.version head ++ l) (sym (frames_more r.version done e));
      events = map-append event_in s.placed (placed ∷ []) ∙ ap (λ (l : List Event). l ++ event_of r.version e ∷ []) h.events ∙ sym (map-append (event_of r.version) done (e ∷ []));
      uses = omega (arith, h.uses, uses_more done e);
      output = ap (λ (l : List Known). s.output + prints l) (knowns_are r head done s h) ∙ ap (λ n. n + prints (map known_in done)) h.output ∙ sym (printed_one r done e);
      open_stage = refl;
    }

-- ---- all events

-- what the records of a run keep
pub record Kept (r : Ranges) (rs : List Recorded) : Type 0 where
  pub few : length rs ≤ event_limit
  pub may : AllMayStand r rs
  pub little : printed r [] rs ≤ output_limit

one_behind : (r : Ranges) (head : Head) (done : List Recorded) (e : Recorded) (left : List Recorded) (s : Progress) → Kept r (done ++ e ∷ left) → Fits e → length (event_payload r.version e) < 2 ^ 32 → Stood r head done s → Behind r (knowns s) s.output e
one_behind r head done e left s kept fit short h =
    let known = knowns_are r head done s h in
    let rs = done ++ e ∷ left in
    let n = length done in
    let earlier : known_before rs n ≡ knowns s = ap (map known_in) (take_at done (e ∷ left) n refl) ∙ sym known in
    let prints : List Known → ℕ = λ earlier. output_of r earlier e.kind e.site e.value in
    let printing : prints (knowns s) ≡ prints (map known_in done) = ap prints known in
    let count : length (knowns s) ≡ length done = ap length known ∙ length-map done known_in in
    record {
      fit = fit;
      may = subst (λ (l : List Known). MayStand r l e) earlier (kept.may n e (at_end done e left));
      room = omega (arith, count, kept.few, length-append done (e ∷ left));
      printed = omega (arith, h.output, printing, printed_more r done e left, kept.little);
      short = short;
    }

-- behind all of them
pub record AllStood (r : Ranges) (steps : ℕ) (head : Head) (rs : List Recorded) (from : Progress) (fed behind : List ℕ) : Type 0 where
  pub standing : Progress
  pub stood : Stood r head rs standing
  pub leaves : Leaves r steps from fed standing behind

pub events_stand : (r : Ranges) (steps : ℕ) (head : Head) (from : Progress) (fed behind : List ℕ) (left done : List Recorded) (s : Progress) → Kept r (done ++ left) → AllByRecursion Fits left → length (concat (map (event_frame r.version) left) ++ behind) ≤ trace_limit
    → Stood r head done s → Leaves r steps from fed s (concat (map (event_frame r.version) left) ++ behind) → AllStood r steps head (done ++ left) from fed behind
unfolding event_frame
events_stand r steps head from fed behind [] done s kept fit small h leaves = record { standing = s; stood = subst (λ (l : List Recorded). Stood r head l s) (sym (append-nil done)) h; leaves = leaves }
events_stand r steps head from fed behind (e ∷ left) done s kept fit small h leaves =
    let others = concat (map (event_frame r.version) left) ++ behind in
    let parts : concat (map (event_frame r.version) (e ∷ left)) ++ behind ≡ event_frame r.version e ++ others = append_assoc (event_frame r.version e) (concat (map (event_frame r.version) left)) behind in
    let within : length (event_frame r.version e ++ others) ≤ trace_limit = subst (λ (l : List ℕ). length l ≤ trace_limit) parts small in
    let long : length (event_frame r.version e) ≤ trace_limit = omega (arith, within, length-append (event_frame r.version e) others) in
    let short : length (event_payload r.version e) < 2 ^ 32 = omega (arith, long, frame_length 69 (event_payload r.version e)) in
    let moved : (done ++ e ∷ []) ++ left ≡ done ++ e ∷ left = append_assoc done (e ∷ []) left in
    let t = with_event s (event_frame r.version e) (written_of r (knowns s) s.output e) in
    let goes = event_goes r steps s e others h.open_stage (one_behind r head done e left s kept fit.0 short h) in
    subst (λ (l : List Recorded). AllStood r steps head l from fed behind) moved
    (events_stand r steps head from fed behind left (done ++ e ∷ []) t (subst (Kept r) (sym moved) kept) fit.1 (omega (arith, within, length-append (event_frame r.version e) others))
    (more_stood r head done s e h)
    (one_frame s (event_frame r.version e ++ others) t others (subst (λ (l : List ℕ). Leaves r steps from fed s l) parts leaves) goes))
