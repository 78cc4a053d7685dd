-- What the events of all frames that stand refer to.
use Rattle.std.proofs.Common.{◌≡◌, ℕ, zero, suc, ◌≤◌, Bool, true, false, cond, eqb, List, [], ◌∷◌, ◌++◌, map, length, drop, Some, Result, Ok, Err, sym, ap, ◌∙◌, subst, arith, length-append}
use Rattle.std.specs.Prelude.{None as Absent}
use Rattle.std.specs.Prelude.{Option, IfOk, MatchResult, slice_get}
use Rattle.std.specs.Str.{bytes_eq}
use Rattle.std.proofs.lemmas.List.{length-map, map-append}
use Rattle.wy_kernel.specs.declared.program.Program.{Program}
use Rattle.wy_event.specs.declared.record.Version.{Version}
use Rattle.wy_event.specs.declared.record.Event.{Event}
use Rattle.wy_event.specs.declared.record.Head.{Head}
use Rattle.wy_event.specs.declared.record.Trace.{Trace}
use Rattle.wy_event.specs.declared.record.Coverage.{Coverage}
use Rattle.wy_event.specs.declared.record.Tail.{Tail}
use Rattle.wy_event.specs.Record.{recorded}
use Rattle.wy_view.specs.References.{RefersBelow, AllRefersBelow}
use Rattle.wy_payload.specs.declared.fault.DamageRule.{DamageRule}
use Rattle.wy_payload.specs.declared.fault.DamageRule.TheVariants as rule
use Rattle.wy_payload.specs.declared.ranges.Ranges.{Ranges}
use Rattle.wy_payload.specs.declared.event.Written.{Written}
use Rattle.wy_payload.specs.Ranges.{ranges_of}
use Rattle.wy_payload.specs.Reading.{Read, all_of}
use Rattle.wy_kernel.specs.Limits.{event_limit}
use Rattle.wy_payload.specs.Events.{event_at}
use Rattle.wy_frames.specs.declared.error.TraceError.{TraceError}
use Rattle.wy_frames.specs.declared.stage.ReadEvent.{ReadEvent}
use Rattle.wy_frames.specs.declared.stage.Stage.{Stage}
use Rattle.wy_frames.specs.declared.stage.Stage.TheVariants as stages
use Rattle.wy_frames.specs.Frames.{Frame, frame_of}
use Rattle.wy_frames.specs.Progress.{Progress, start, event_in, known_as_placed, knowns, Violates, Unsealed, Next, read_as, with_event, with_stage, event_next, coverage_next, end_next, seal_length, seal_next, open_next, covered_next, ended_next, next_at, next_of}
use Rattle.wy_frames.specs.Scan.{Goes, turn_next, without_frame, turn_frame, is_passed, turn, Leaves, nothing, frame}
use Rattle.wy_frames.specs.Heads.{ReadHead, head_of}
use Rattle.wy_frames.specs.Traces.{IsReadBehind, IsReadAs}
use Rattle.wy_payload.proofs.Readers.{then_has}
use Rattle.law_reading.specs.Referring.{ReferBelow}
use Rattle.law_reading.proofs.ReferringNumbers.{Has, whatever}
use Rattle.law_reading.proofs.ReferringEvents.{Stands, event_has}

-- the events that stand are few and refer below themselves
record Sound (placed : List ReadEvent) : Type 0 where
  few : length placed ≤ event_limit
  refer : AllRefersBelow (map event_in placed)

abbrev StaysSound : Next → Type 0
StaysSound next = IfOk next (λ t. Sound t.placed)

-- ---- one event more

one_more : (P : ℕ → Event → Type 0) (es : List Event) (e : Event) → ((n : ℕ) (f : Event) → slice_get es n ≡ Some f → P n f) → P (length es) e → (n : ℕ) (f : Event) → slice_get (es ++ e ∷ []) n ≡ Some f → P n f
one_more P [] e before last zero f is = let same : e ≡ f = cc in subst (P zero) same last
one_more P [] e before last (suc n) f is = absurd cc
one_more P (d ∷ es) e before last zero f is = before zero f is
one_more P (d ∷ es) e before last (suc n) f is = one_more (λ m. P (suc m)) es e (λ m. before (suc m)) last n f is

with_last : (placed : List ReadEvent) (w : Written) (end : ℕ) → Sound placed → Stands (length (map known_as_placed placed)) w → Sound (placed ++ record { event = w.event; end = end } ∷ [])
with_last placed w end sound stands =
    let last : ReadEvent = record { event = w.event; end = end } in
    let counted : length (map known_as_placed placed) ≡ length placed = length-map placed known_as_placed in
    let place : length (map known_as_placed placed) ≡ length (map event_in placed) = counted ∙ sym (length-map placed event_in) in
    record {
      few = omega (arith, length-append placed (last ∷ []), counted, stands.room);
      refer = subst AllRefersBelow (sym (map-append event_in placed (last ∷ []))) (one_more (λ n e. RefersBelow n (recorded e)) (map event_in placed) w.event sound.refer (subst (λ (n : ℕ). RefersBelow n (recorded w.event)) place stands.refers));
    }

-- ---- one frame more

test_has : {A : Type 0} (b : Bool) (x : A) (r : DamageRule) (P : A → Type 0) → P x → IfOk (cond b (Ok x) (Err r)) P
test_has true x r P h = h
test_has false x r P h = tt

all_has : {A : Type 0} (read : Read A) (P : A → Type 0) → Has P read → IfOk (all_of read) P
all_has read P h = then_has read _ _ P h (λ x p. test_has (eqb (length x.1) 0) x.0 rule.Length P p)

read_has : {A : Type 0} (f : A → Progress) (r : Result A DamageRule) (P : A → Type 0) → IfOk r P → ((x : A) → P x → Sound (f x).placed) → StaysSound (read_as f r)
read_has f (Ok x) P h k = k x h
read_has f (Err r) P h k = tt

event_stays : (r : Ranges) (s : Progress) (whole payload : List ℕ) → Sound s.placed → StaysSound (event_next r s whole payload)
unfolding event_next with_event
event_stays r s whole payload sound = read_has (with_event s whole) _ _ (all_has (event_at r (knowns s) s.output payload) (Stands (length (knowns s))) (event_has r (knowns s) s.output payload)) (λ w stands. with_last s.placed w _ sound stands)

coverage_stays : (r : Ranges) (s : Progress) (whole payload : List ℕ) → Sound s.placed → StaysSound (coverage_next r s whole payload)
unfolding coverage_next with_stage
coverage_stays r s whole payload sound = read_has _ _ _ (whatever _) (λ c _. sound)

end_stays : (steps : ℕ) (s : Progress) (c : Coverage) (whole payload : List ℕ) → Sound s.placed → StaysSound (end_next steps s c whole payload)
unfolding end_next with_stage
end_stays steps s c whole payload sound = read_has _ _ _ (whatever _) (λ t _. sound)

seal_stays : (s : Progress) (t : Tail) (whole payload : List ℕ) → Sound s.placed → StaysSound (seal_next s t whole payload)
unfolding seal_next with_stage
seal_stays s t whole payload sound = by_length (eqb (length payload) seal_length) _
  where
    by_digest : (b : Bool) (seal : List ℕ) → StaysSound (cond b (Ok (with_stage s whole (stages.Sealed t seal))) (Err Unsealed))
    by_digest true seal = sound
    by_digest false seal = tt

    by_length : (b : Bool) (seal : List ℕ) → StaysSound (cond b (cond (bytes_eq payload seal) (Ok (with_stage s whole (stages.Sealed t seal))) (Err Unsealed)) (Err (Violates rule.Length)))
    by_length true seal = by_digest (bytes_eq payload seal) seal
    by_length false seal = tt

either_stays : (b : Bool) (x y : Next) → StaysSound x → StaysSound y → StaysSound (cond b x y)
either_stays true x y h k = h
either_stays false x y h k = k

stage_stays : (r : Ranges) (steps : ℕ) (s : Progress) (stage : Stage) (f : Frame) → Sound s.placed → StaysSound (next_at r steps s stage f)
unfolding next_at open_next covered_next ended_next
stage_stays r steps s stages.Open f sound = either_stays (eqb f.letter 69) _ _ (event_stays r s f.whole f.payload sound) (either_stays (eqb f.letter 67) _ _ (coverage_stays r s f.whole f.payload sound) tt)
stage_stays r steps s (stages.Covered c) f sound = either_stays (eqb f.letter 84) _ _ (end_stays steps s c f.whole f.payload sound) tt
stage_stays r steps s (stages.Ended t) f sound = either_stays (eqb f.letter 83) _ _ (seal_stays s t f.whole f.payload sound) tt
stage_stays r steps s (stages.Sealed t seal) f sound = tt

next_goes : (s t : Progress) (rest others : List ℕ) (next : Next) → StaysSound next → turn_next s rest next ≡ Goes t others → Sound t.placed
next_goes s t rest others (Ok u) stays e = let same : u ≡ t = cc in subst (λ (v : Progress). Sound v.placed) same stays
next_goes s t rest others (Err (Violates r)) stays e = absurd cc
next_goes s t rest others (Err Unsealed) stays e = absurd cc

never_goes : (at : ℕ) (b : Bool) (t : Progress) (others : List ℕ) → without_frame at b ≡ Goes t others → ⊥
never_goes at true t others e = cc
never_goes at false t others e = cc

turn_stays : (r : Ranges) (steps : ℕ) (s t : Progress) (bytes others : List ℕ) → Sound s.placed → turn r steps s bytes ≡ Goes t others → Sound t.placed
unfolding turn
turn_stays r steps s t bytes others sound e = by_frame (frame_of bytes) e
  where
    by_frame : (o : Option Frame) → turn_frame (next_of r steps s) s bytes o ≡ Goes t others → Sound t.placed
    by_frame Absent is = absurd (never_goes (length s.before) (is_passed s.stage bytes) t others is)
    by_frame (Some f) is = next_goes s t f.rest others (next_of r steps s f) (stage_stays r steps s s.stage f sound) is

-- ---- all frames

leaves_sound : (r : Ranges) (steps : ℕ) (from : Progress) (bytes : List ℕ) → Sound from.placed → (t : Progress) (rest : List ℕ) → Leaves r steps from bytes t rest → Sound t.placed
leaves_sound r steps from bytes sound _ _ nothing = sound
leaves_sound r steps from bytes sound _ _ (frame s rest t others before e) = turn_stays r steps s t rest others (leaves_sound r steps from bytes sound s rest before) e

none_sound : Sound []
none_sound = record { few = omega arith; refer = λ n e is. absurd cc }

start_sound : (v : Version) (head : Head) → Sound (start v head).placed
unfolding start
start_sound v head = none_sound

pub so_far : (v : Version) (p : Program) (head : Head) (fed rest : List ℕ) (t : Progress) → Leaves (ranges_of v p) head.steps (start v head) fed t rest → ReferBelow (map event_in t.placed)
so_far v p head fed rest t leaves =
    let sound = leaves_sound (ranges_of v p) head.steps (start v head) fed (start_sound v head) t rest leaves in
    record { few = omega (arith, length-map t.placed event_in, sound.few); refer = sound.refer }

record SoundTrace (x : Trace) : Type 0 where
  few : length x.events ≤ event_limit
  refer : AllRefersBelow x.events

behind_sound : (v : Version) (p : Program) (head : Head) (fed : List ℕ) (x : Trace) → IsReadBehind v p head fed (Ok x) → SoundTrace x
behind_sound v p head fed x h =
    let t = h.0 in
    let sound = leaves_sound (ranges_of v p) head.steps (start v head) fed (start_sound v head) t h.1.rest h.1.leaves in
    record {
      few = omega (arith, ap (λ (es : List Event). length es) h.2.events, length-map t.placed event_in, sound.few);
      refer = subst AllRefersBelow (sym h.2.events) sound.refer;
    }

with_head : (p : Program) (bytes : List ℕ) (x : Trace) (h : Result ReadHead TraceError) → MatchResult h (λ y. IsReadBehind y.2 p y.0 (drop y.1 bytes) (Ok x)) (λ e. Ok x ≡ Err e) → SoundTrace x
with_head p bytes x (Ok y) is = behind_sound y.2 p y.0 (drop y.1 bytes) x is
with_head p bytes x (Err e) is = absurd cc

pub refer_below : (p : Program) (bytes : List ℕ) (x : Trace) → IsReadAs p bytes (Ok x) → AllRefersBelow x.events
refer_below p bytes x is = (with_head p bytes x (head_of bytes) is).refer

pub are_few : (p : Program) (bytes : List ℕ) (x : Trace) → IsReadAs p bytes (Ok x) → length x.events ≤ event_limit
are_few p bytes x is = (with_head p bytes x (head_of bytes) is).few
