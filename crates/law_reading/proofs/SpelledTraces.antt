-- A whole trace that is read is spelled so.
use Rattle.std.proofs.Common.{◌≡◌, ℕ, ◌+◌, ◌<◌, Bool, true, false, List, [], ◌∷◌, ◌++◌, map, length, drop, Option, Some, Result, Ok, Err, refl, sym, ap, ◌∙◌, subst, append_assoc, append-nil, take-append-drop}
use Rattle.std.specs.Prelude.{None as Absent}
use Rattle.std.specs.Prelude.{MatchResult}
use Rattle.std.proofs.lemmas.List.{get_or-append-add}
use Rattle.wy_kernel.specs.declared.program.Program.{Program}
use Rattle.wy_event.specs.declared.record.Version.{Version}
use Rattle.wy_event.specs.declared.record.Event.{Event}
use Rattle.wy_event.specs.declared.record.Head.{Head}
use Rattle.wy_event.specs.declared.record.Tail.{Tail}
use Rattle.wy_event.specs.declared.record.Trace.{Trace}
use Rattle.wy_spelling.specs.Spelling.{opening, events_bytes, tail_frames, sealed, trace_bytes}
use Rattle.wy_payload.specs.declared.ranges.Ranges.{Ranges}
use Rattle.wy_payload.specs.Ranges.{ranges_of}
use Rattle.wy_frames.specs.declared.error.TraceError.{TraceError}
use Rattle.wy_frames.specs.declared.stage.Stage.{Stage}
use Rattle.wy_frames.specs.declared.stage.Stage.TheVariants as stages
use Rattle.wy_frames.specs.Frames.{Frame, frame_of}
use Rattle.wy_frames.specs.Progress.{Progress, start, event_in, Violates, Unsealed, Next, next_at, next_of}
use Rattle.wy_frames.specs.Scan.{Waits, Goes, turn_next, is_passed, without_frame, turn_frame, turn, Leaves, nothing, frame}
use Rattle.wy_frames.specs.Heads.{ReadHead, head_of, version_of}
use Rattle.wy_frames.specs.Traces.{IsReadBehind, IsReadAs}
use Rattle.law_reading.specs.Spelled.{AreBytes}
use Rattle.law_reading.proofs.SpelledNumbers.{bytes_behind}
use Rattle.law_reading.proofs.Heads.{IsFrame, whole_frame, head_spelled, version_read}
use Rattle.law_reading.proofs.Progress.{front, SpelledTo, Grown, Grows, stage_grows}

-- what stands is spelled so, and with what is left it is all the bytes
record Stands (all : List ℕ) (v : Version) (head : Head) (s : Progress) (rest : List ℕ) : Type 0 where
  told : SpelledTo (front v head s.placed) s.stage s.before
  parts : all ≡ s.before ++ rest
  rest_bytes : AreBytes rest

-- ---- one frame more

pub bytes_after : (a b : List ℕ) → AreBytes (a ++ b) → AreBytes b
bytes_after a b are i = subst (λ (n : ℕ). n < 256) (get_or-append-add a b i 0) (are (length a + i))

grown_stands : (all : List ℕ) (v : Version) (head : Head) (s t : Progress) (rest : List ℕ) (f : Frame) → IsFrame rest f → Stands all v head s rest → Grown v head s f.whole t → Stands all v head t f.rest
grown_stands all v head s t rest f shown stands grown = record {
  told = grown.told;
  parts = stands.parts ∙ ap (λ l. s.before ++ l) (sym shown.parts) ∙ sym (append_assoc s.before f.whole f.rest) ∙ ap (λ l. l ++ f.rest) (sym grown.before);
  rest_bytes = bytes_after f.whole f.rest (subst AreBytes (sym shown.parts) stands.rest_bytes);
}

next_goes : (all : List ℕ) (v : Version) (head : Head) (s t : Progress) (rest others : List ℕ) (f : Frame) (next : Next) → IsFrame rest f → Stands all v head s rest → Grows v head s f.whole next → turn_next s f.rest next ≡ Goes t others → Stands all v head t others
next_goes all v head s t rest others f (Ok u) shown stands grows e =
    let same : u ≡ t = cc in
    let left : f.rest ≡ others = cc in
    subst (λ (l : List ℕ). Stands all v head t l) left (subst (λ (u : Progress). Stands all v head u f.rest) same (grown_stands all v head s u rest f shown stands grows))
next_goes all v head s t rest others f (Err (Violates r)) shown stands grows e = absurd cc
next_goes all v head s t rest others f (Err Unsealed) shown stands grows e = absurd cc

pub never_goes : (at : ℕ) (b : Bool) (t : Progress) (others : List ℕ) → without_frame at b ≡ Goes t others → ⊥
never_goes at true t others e = cc
never_goes at false t others e = cc

turn_stands : (r : Ranges) (steps : ℕ) (all : List ℕ) (head : Head) (s t : Progress) (rest others : List ℕ) → Stands all r.version head s rest → turn r steps s rest ≡ Goes t others → Stands all r.version head t others
unfolding turn
turn_stands r steps all head s t rest others stands e = by_frame (frame_of rest) refl e
  where
    by_frame : (o : Option Frame) → frame_of rest ≡ o → turn_frame (next_of r steps s) s rest o ≡ Goes t others → Stands all r.version head t others
    by_frame Absent is e = absurd (never_goes (length s.before) (is_passed s.stage rest) t others e)
    by_frame (Some f) is e = let shown = whole_frame rest f stands.rest_bytes is in next_goes all r.version head s t rest others f (next_of r steps s f) shown stands (stage_grows r steps head s s.stage rest f shown stands.told) e

-- ---- all frames

leaves_stand : (r : Ranges) (steps : ℕ) (all : List ℕ) (head : Head) (from : Progress) (fed : List ℕ) → Stands all r.version head from fed → (t : Progress) (rest : List ℕ) → Leaves r steps from fed t rest → Stands all r.version head t rest
leaves_stand r steps all head from fed stands _ _ nothing = stands
leaves_stand r steps all head from fed stands _ _ (frame s rest t others before e) = turn_stands r steps all head s t rest others (leaves_stand r steps all head from fed stands s rest before) e

start_stands : (v : Version) (head : Head) (fed : List ℕ) → AreBytes fed → Stands (opening v head ++ fed) v head (start v head) fed
unfolding start events_bytes
start_stands v head fed are = record { told = sym (append-nil (opening v head)); parts = refl; rest_bytes = are }

-- ---- nothing is left behind a seal

not_passed : (at : ℕ) (b : Bool) → without_frame at b ≡ Waits → b ≡ false
not_passed at true e = absurd cc
not_passed at false e = refl

none_passed : (t : Tail) (seal rest : List ℕ) → is_passed (stages.Sealed t seal) rest ≡ false → rest ≡ []
none_passed t seal [] e = refl
none_passed t seal (b ∷ rest) e = absurd cc

pub sealed_waits : (r : Ranges) (steps : ℕ) (s : Progress) (rest : List ℕ) (t : Tail) (seal : List ℕ) → s.stage ≡ stages.Sealed t seal → turn r steps s rest ≡ Waits → rest ≡ []
unfolding turn next_at
sealed_waits r steps s rest t seal ended e = by_frame (frame_of rest) e
  where
    by_frame : (o : Option Frame) → turn_frame (next_of r steps s) s rest o ≡ Waits → rest ≡ []
    by_frame Absent is = none_passed t seal rest (ap (λ (stage : Stage). is_passed stage rest) (sym ended) ∙ not_passed (length s.before) (is_passed s.stage rest) is)
    by_frame (Some f) is = let stops = ap (λ (stage : Stage). turn_next s f.rest (next_at r steps s stage f)) (sym ended) ∙ is in absurd cc

-- ---- a trace

trace_is : (v : Version) (x : Trace) (head : Head) (events : List Event) → x.head ≡ head → x.events ≡ events → sealed ((opening v head ++ events_bytes v events) ++ tail_frames x.tail) ≡ trace_bytes v x
unfolding trace_bytes
trace_is v x head events same are =
    ap sealed (append_assoc (opening v head) (events_bytes v events) (tail_frames x.tail))
    ∙ ap (λ (h : Head). sealed (opening v h ++ (events_bytes v events ++ tail_frames x.tail))) (sym same)
    ∙ ap (λ (es : List Event). sealed (opening v x.head ++ (events_bytes v es ++ tail_frames x.tail))) (sym are)

behind_spelled : (v : Version) (p : Program) (head : Head) (fed : List ℕ) (x : Trace) → AreBytes fed → IsReadBehind v p head fed (Ok x) → opening v head ++ fed ≡ trace_bytes v x
unfolding ranges_of
behind_spelled v p head fed x are h =
    let t = h.0 in
    let stands = leaves_stand (ranges_of v p) head.steps (opening v head ++ fed) head (start v head) fed (start_stands v head fed are) t h.1.rest h.1.leaves in
    let none = sealed_waits (ranges_of v p) head.steps t h.1.rest x.tail h.2.seal h.2.sealed h.1.waits in
    let told : t.before ≡ sealed (front v head t.placed ++ tail_frames x.tail) = subst (λ (stage : Stage). SpelledTo (front v head t.placed) stage t.before) h.2.sealed stands.told in
    stands.parts ∙ ap (λ l. t.before ++ l) none ∙ append-nil t.before ∙ told ∙ trace_is v x head (map event_in t.placed) h.2.head_is h.2.events

with_head : (p : Program) (bytes : List ℕ) (x : Trace) (h : Result ReadHead TraceError) → AreBytes bytes → head_of bytes ≡ h → MatchResult h (λ y. IsReadBehind y.2 p y.0 (drop y.1 bytes) (Ok x)) (λ e. Ok x ≡ Err e) → bytes ≡ trace_bytes (version_of bytes) x
with_head p bytes x (Ok y) are is read =
    sym (take-append-drop y.1 bytes) ∙ ap (λ l. l ++ drop y.1 bytes) (head_spelled bytes y.0 y.1 y.2 are is) ∙ behind_spelled y.2 p y.0 (drop y.1 bytes) x (bytes_behind y.1 bytes are) read
    ∙ ap (λ (v : Version). trace_bytes v x) (sym (version_read bytes y is))
with_head p bytes x (Err e) are is read = absurd cc

pub whole_trace : (p : Program) (bytes : List ℕ) (x : Trace) → AreBytes bytes → IsReadAs p bytes (Ok x) → bytes ≡ trace_bytes (version_of bytes) x
whole_trace p bytes x are read = with_head p bytes x (head_of bytes) are refl read
