-- The events of all frames that stand are placed.
use Rattle.std.proofs.Common.{◌≡◌, ℕ, ◌+◌, Bool, true, false, cond, eqb, List, [], ◌∷◌, ◌++◌, map, length, Option, Some, Result, Ok, Err, refl, sym, ap, ◌∙◌, subst, arith, append_assoc, append-nil, length-append, inl, inr, ◌⊎◌}
use Rattle.std.specs.Prelude.{None as Absent}
use Rattle.std.specs.Prelude.{IfOk}
use Rattle.std.specs.Str.{bytes_eq}
use Rattle.std.proofs.lemmas.List.{append_cancel_left}
use Rattle.sha2.specs.Sha256.{sha256}
use Rattle.wy_event.specs.declared.record.Version.{Version}
use Rattle.wy_event.specs.declared.record.Head.{Head}
use Rattle.wy_event.specs.declared.record.Coverage.{Coverage}
use Rattle.wy_event.specs.declared.record.Tail.{Tail}
use Rattle.wy_event.specs.Record.{recorded}
use Rattle.wy_spelling.specs.Spelling.{coverage_frame, event_frame, events_bytes, opening, seal_frame, sealed, tail_frames}
use Rattle.wy_payload.specs.declared.fault.DamageRule.{DamageRule}
use Rattle.wy_payload.specs.declared.fault.DamageRule.TheVariants as rule
use Rattle.wy_payload.specs.declared.ranges.Ranges.{Ranges}
use Rattle.wy_payload.specs.Reading.{all_of}
use Rattle.wy_payload.specs.Events.{event_at}
use Rattle.wy_payload.specs.Closing.{coverage_at, tail_at}
use Rattle.wy_frames.specs.declared.stage.ReadEvent.{ReadEvent}
use Rattle.wy_frames.specs.declared.stage.Stage.{Stage}
use Rattle.wy_frames.specs.declared.stage.Stage.TheVariants as stages
use Rattle.wy_frames.specs.Frames.{Frame, frame_of}
use Rattle.wy_frames.specs.Progress.{Progress, start, event_in, knowns, Violates, Unsealed, Next, read_as, with_event, with_stage, event_next, coverage_next, end_next, seal_length, seal_next, open_next, covered_next, ended_next, next_at, next_of}
use Rattle.wy_frames.specs.Scan.{Goes, turn_next, turn_frame, is_passed, turn, Leaves, nothing, frame}
use Rattle.law_reading.specs.Spelled.{AreBytes}
use Rattle.law_reading.proofs.Heads.{IsFrame, whole_frame}
use Rattle.law_reading.proofs.Progress.{front, SpelledTo, Grown, Grows, stage_grows}
use Rattle.law_reading.proofs.SpelledTraces.{bytes_after, never_goes}
use Rattle.law_placing.specs.Placed.{ArePlaced, PlacedFrom}

-- ---- a frame adds an event and its place, or none

-- behind what stands then, at the first stage
record Adds (s t : Progress) (x : ReadEvent) : Type 0 where
  placed : t.placed ≡ s.placed ++ x ∷ []
  place : x.end ≡ length t.before
  stage : t.stage ≡ stages.Open

abbrev More : Progress → Progress → Type 0
More s t = (t.placed ≡ s.placed) ⊎ ((x : ReadEvent) × Adds s t x)

abbrev Mores : Progress → Next → Type 0
Mores s next = IfOk next (More s)

as_read : {A : Type 0} (f : A → Progress) (s : Progress) (r : Result A DamageRule) → ((x : A) → More s (f x)) → Mores s (read_as f r)
as_read f s (Ok x) k = k x
as_read f s (Err r) k = tt

either : (s : Progress) (b : Bool) (x y : Next) → Mores s x → Mores s y → Mores s (cond b x y)
either s true x y h k = h
either s false x y h k = k

event_adds : (r : Ranges) (s : Progress) (whole payload : List ℕ) → Mores s (event_next r s whole payload)
unfolding event_next with_event
event_adds r s whole payload = as_read (with_event s whole) s (all_of (event_at r (knowns s) s.output payload)) (λ w. inr (record { event = w.event; end = length (s.before ++ whole) }, record { placed = refl; place = refl; stage = refl }))

coverage_adds : (r : Ranges) (s : Progress) (whole payload : List ℕ) → Mores s (coverage_next r s whole payload)
unfolding coverage_next with_stage
coverage_adds r s whole payload = as_read (λ c. with_stage s whole (stages.Covered c)) s (all_of (coverage_at r.statements (knowns s) payload)) (λ c. inl refl)

end_adds : (steps : ℕ) (s : Progress) (c : Coverage) (whole payload : List ℕ) → Mores s (end_next steps s c whole payload)
unfolding end_next with_stage
end_adds steps s c whole payload = as_read (λ t. with_stage s whole (stages.Ended t)) s (all_of (tail_at (knowns s) (record { steps = steps; uses = s.uses; output = s.output }) c payload)) (λ t. inl refl)

seal_adds : (s : Progress) (t : Tail) (whole payload : List ℕ) → Mores s (seal_next s t whole payload)
unfolding seal_next with_stage
seal_adds s t whole payload = either s (eqb (length payload) seal_length) _ (Err (Violates rule.Length)) (either s (bytes_eq payload (sha256 s.before)) (Ok (with_stage s whole (stages.Sealed t (sha256 s.before)))) (Err Unsealed) (inl refl) tt) tt

stage_adds : (r : Ranges) (steps : ℕ) (s : Progress) (stage : Stage) (f : Frame) → Mores s (next_at r steps s stage f)
unfolding next_at open_next covered_next ended_next
stage_adds r steps s stages.Open f = either s (eqb f.letter 69) _ _ (event_adds r s f.whole f.payload) (either s (eqb f.letter 67) _ (Err (Violates rule.FrameKind)) (coverage_adds r s f.whole f.payload) tt)
stage_adds r steps s (stages.Covered c) f = either s (eqb f.letter 84) _ (Err (Violates rule.FrameKind)) (end_adds steps s c f.whole f.payload) tt
stage_adds r steps s (stages.Ended t) f = either s (eqb f.letter 83) _ (Err (Violates rule.FrameKind)) (seal_adds s t f.whole f.payload) tt
stage_adds r steps s (stages.Sealed t seal) f = tt

-- ---- places

events_after : (v : Version) (x : ReadEvent) (placed : List ReadEvent) → length (events_bytes v (map event_in (x ∷ placed))) ≡ length (event_frame v (recorded x.event)) + length (events_bytes v (map event_in placed))
unfolding events_bytes
events_after v x placed = length-append (event_frame v (recorded x.event)) (events_bytes v (map event_in placed))

none_long : (v : Version) → length (events_bytes v []) ≡ 0
unfolding events_bytes
none_long v = refl

one_placed : (v : Version) (at : ℕ) (placed : List ReadEvent) (x : ReadEvent) → PlacedFrom v at placed → x.end ≡ at + length (events_bytes v (map event_in (placed ++ x ∷ []))) → PlacedFrom v at (placed ++ x ∷ [])
one_placed v at [] x before place = (omega (arith, place, events_after v x [], none_long v), tt)
one_placed v at (y ∷ placed) x before place = (before.0, one_placed v y.end placed x before.1 (omega (arith, place, before.0, events_after v y (placed ++ x ∷ []))))

-- ---- all frames

record Stands (v : Version) (head : Head) (all : List ℕ) (s : Progress) (rest : List ℕ) : Type 0 where
  told : SpelledTo (front v head s.placed) s.stage s.before
  parts : all ≡ s.before ++ rest
  rest_bytes : AreBytes rest
  places : PlacedFrom v (length (opening v head)) s.placed

more_places : (v : Version) (head : Head) (s t : Progress) → PlacedFrom v (length (opening v head)) s.placed → SpelledTo (front v head t.placed) t.stage t.before → More s t → PlacedFrom v (length (opening v head)) t.placed
more_places v head s t before told (inl same) = subst (PlacedFrom v (length (opening v head))) (sym same) before
more_places v head s t before told (inr (x, adds)) =
    let here : t.before ≡ front v head t.placed = subst (λ (stage : Stage). SpelledTo (front v head t.placed) stage t.before) adds.stage told in
    let long : x.end ≡ length (opening v head) + length (events_bytes v (map event_in t.placed)) = adds.place ∙ ap length here ∙ length-append (opening v head) (events_bytes v (map event_in t.placed)) in
    subst (PlacedFrom v (length (opening v head))) (sym adds.placed) (one_placed v (length (opening v head)) s.placed x before (long ∙ ap (λ l. length (opening v head) + length (events_bytes v (map event_in l))) adds.placed))

one_stands : (v : Version) (head : Head) (all : List ℕ) (s t : Progress) (rest : List ℕ) (f : Frame) → IsFrame rest f → Stands v head all s rest → Grown v head s f.whole t → More s t → Stands v head all t f.rest
one_stands v head all s t rest f shown stands grown more = record {
  told = grown.told;
  parts = stands.parts ∙ ap (λ l. s.before ++ l) (sym shown.parts) ∙ sym (append_assoc s.before f.whole f.rest) ∙ ap (λ l. l ++ f.rest) (sym grown.before);
  rest_bytes = bytes_after f.whole f.rest (subst AreBytes (sym shown.parts) stands.rest_bytes);
  places = more_places v head s t stands.places grown.told more;
}

next_stands : (v : Version) (head : Head) (all : List ℕ) (s t : Progress) (rest others : List ℕ) (f : Frame) (next : Next) → IsFrame rest f → Stands v head all s rest → Grows v head s f.whole next → Mores s next → turn_next s f.rest next ≡ Goes t others → Stands v head all t others
next_stands v head all s t rest others f (Ok u) shown stands grows more e =
    let same : u ≡ t = cc in
    let left : f.rest ≡ others = cc in
    subst (λ (l : List ℕ). Stands v head all t l) left (subst (λ (u : Progress). Stands v head all u f.rest) same (one_stands v head all s u rest f shown stands grows more))
next_stands v head all s t rest others f (Err (Violates r)) shown stands grows more e = absurd cc
next_stands v head all s t rest others f (Err Unsealed) shown stands grows more e = absurd cc

turn_stands : (r : Ranges) (steps : ℕ) (head : Head) (all : List ℕ) (s t : Progress) (rest others : List ℕ) → Stands r.version head all s rest → turn r steps s rest ≡ Goes t others → Stands r.version head all t others
unfolding turn
turn_stands r steps head all s t rest others stands e = by_frame (frame_of rest) refl e
  where
    by_frame : (o : Option Frame) → frame_of rest ≡ o → turn_frame (next_of r steps s) s rest o ≡ Goes t others → Stands r.version head all t others
    by_frame Absent is e = absurd (never_goes (length s.before) (is_passed s.stage rest) t others e)
    by_frame (Some f) is e = let shown = whole_frame rest f stands.rest_bytes is in next_stands r.version head all s t rest others f (next_of r steps s f) shown stands (stage_grows r steps head s s.stage rest f shown stands.told) (stage_adds r steps s s.stage f) e

all_stand : (r : Ranges) (steps : ℕ) (head : Head) (all : List ℕ) (from : Progress) (fed : List ℕ) → Stands r.version head all from fed → (t : Progress) (rest : List ℕ) → Leaves r steps from fed t rest → Stands r.version head all t rest
all_stand r steps head all from fed stands _ _ nothing = stands
all_stand r steps head all from fed stands _ _ (frame s rest t others before e) = turn_stands r steps head all s t rest others (all_stand r steps head all from fed stands s rest before) e

start_stands : (v : Version) (head : Head) (fed : List ℕ) → AreBytes fed → Stands v head (opening v head ++ fed) (start v head) fed
unfolding start events_bytes
start_stands v head fed are = record { told = sym (append-nil (opening v head)); parts = refl; rest_bytes = are; places = tt }

-- ---- what stands behind the frames of the events

-- the frames of a stage
more_behind : (before : List ℕ) (stage : Stage) (bytes rest : List ℕ) → SpelledTo before stage bytes → (others : List ℕ) × (bytes ++ rest ≡ before ++ others)
unfolding sealed
more_behind before stages.Open bytes rest told = (rest, ap (λ l. l ++ rest) told)
more_behind before (stages.Covered c) bytes rest told = (coverage_frame c ++ rest, ap (λ l. l ++ rest) told ∙ append_assoc before (coverage_frame c) rest)
more_behind before (stages.Ended t) bytes rest told = (tail_frames t ++ rest, ap (λ l. l ++ rest) told ∙ append_assoc before (tail_frames t) rest)
more_behind before (stages.Sealed t seal) bytes rest told =
    let end = seal_frame (sha256 (before ++ tail_frames t)) in (
      tail_frames t ++ (end ++ rest),
      ap (λ l. l ++ rest) told ∙ append_assoc (before ++ tail_frames t) end rest ∙ append_assoc before (tail_frames t) (end ++ rest),
    )

pub are_placed : (r : Ranges) (steps : ℕ) (head : Head) (fed : List ℕ) (t : Progress) (rest : List ℕ) → AreBytes fed → Leaves r steps (start r.version head) fed t rest → ArePlaced r.version head fed t.placed
are_placed r steps head fed t rest are leaves =
    let stands = all_stand r steps head (opening r.version head ++ fed) (start r.version head) fed (start_stands r.version head fed are) t rest leaves in
    let behind = more_behind (front r.version head t.placed) t.stage t.before rest stands.told in
    record {
      others = behind.0;
      parts = append_cancel_left (opening r.version head) fed (events_bytes r.version (map event_in t.placed) ++ behind.0) (stands.parts ∙ behind.1 ∙ append_assoc (opening r.version head) (events_bytes r.version (map event_in t.placed)) behind.0);
      places = stands.places;
    }
