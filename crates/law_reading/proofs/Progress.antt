-- What stands is spelled so, and so is what stands with a frame more.
use Rattle.std.proofs.Common.{◌≡◌, ℕ, Bool, true, false, cond, eqb, List, [], ◌∷◌, ◌++◌, map, length, Result, Ok, Err, refl, sym, ap, ◌∙◌, append_assoc}
use Rattle.std.specs.Prelude.{IfOk}
use Rattle.std.specs.Str.{bytes_eq}
use Rattle.std.specs.List.{flat_map}
use Rattle.std.proofs.lemmas.Bool.{eqb-true}
use Rattle.std.proofs.lemmas.List.{map-append, flat_map_more}
use Rattle.std.proofs.lemmas.Slice.Eq.{bytes_eq-Decides}
use Rattle.sha2.specs.Sha256.{sha256}
use Rattle.wy_event.specs.declared.record.Version.{Version}
use Rattle.wy_event.specs.declared.record.Event.{Event}
use Rattle.wy_event.specs.declared.record.Coverage.{Coverage}
use Rattle.wy_event.specs.declared.record.Head.{Head}
use Rattle.wy_event.specs.declared.record.Tail.{Tail}
use Rattle.wy_event.specs.Record.{recorded}
use Rattle.wy_spelling.specs.Spelling.{number, frame, event_payload, coverage_payload, tail_payload, event_frame, coverage_frame, end_frame, seal_frame, opening, tail_frames, events_bytes, sealed}
use Rattle.wy_payload.specs.declared.fault.DamageRule.{DamageRule}
use Rattle.wy_payload.specs.declared.fault.DamageRule.TheVariants as rule
use Rattle.wy_payload.specs.declared.closing.Totals.{Totals}
use Rattle.wy_payload.specs.declared.ranges.Ranges.{Ranges}
use Rattle.wy_payload.specs.declared.known.Known.{Known}
use Rattle.wy_payload.specs.declared.event.Written.{Written}
use Rattle.wy_payload.specs.Reading.{all_of}
use Rattle.wy_payload.specs.Events.{event_at}
use Rattle.wy_payload.specs.Closing.{coverage_at, tail_at}
use Rattle.wy_frames.specs.declared.stage.ReadEvent.{ReadEvent}
use Rattle.wy_frames.specs.declared.stage.Stage.{Stage}
use Rattle.wy_frames.specs.declared.stage.Stage.TheVariants as stages
use Rattle.wy_frames.specs.Frames.{Frame}
use Rattle.wy_frames.specs.Progress.{Progress, event_in, knowns, Violates, Unsealed, Next, read_as, with_event, with_stage, event_next, coverage_next, end_next, seal_length, seal_next, open_next, covered_next, ended_next, next_at}
use Rattle.law_reading.specs.Spelled.{AreBytes}
use Rattle.law_reading.proofs.SpelledNumbers.{read_then}
use Rattle.law_reading.proofs.Heads.{IsFrame}
use Rattle.law_reading.proofs.Tails.{ends, tail_spelled, whole_coverage, whole_tail}
use Rattle.law_reading.proofs.SpelledSteps.{if_read}
use Rattle.law_reading.proofs.SpelledEvents.{whole_event}

-- the head, and the events one behind another
abbrev pub front : Version → Head → List ReadEvent → List ℕ
front v head placed = opening v head ++ events_bytes v (map event_in placed)

-- behind these bytes, the frames that the stage has
abbrev pub SpelledTo : List ℕ → Stage → List ℕ → Type 0
SpelledTo before stages.Open bytes = bytes ≡ before
SpelledTo before (stages.Covered c) bytes = bytes ≡ before ++ coverage_frame c
SpelledTo before (stages.Ended t) bytes = bytes ≡ before ++ tail_frames t
SpelledTo before (stages.Sealed t seal) bytes = bytes ≡ sealed (before ++ tail_frames t)

-- what stands is spelled so, and begins with what stood
pub record Grown (v : Version) (head : Head) (s : Progress) (bytes : List ℕ) (t : Progress) : Type 0 where
  pub told : SpelledTo (front v head t.placed) t.stage t.before
  pub before : t.before ≡ s.before ++ bytes

abbrev pub Grows : Version → Head → Progress → List ℕ → Next → Type 0
Grows v head s bytes next = IfOk next (λ t. Grown v head s bytes t)

pub read_has : {A : Type 0} (f : A → Progress) (r : Result A DamageRule) (P : A → Type 0) (Q : Progress → Type 0) → IfOk r P → ((x : A) → P x → Q (f x)) → IfOk (read_as f r) Q
read_has f (Ok x) P Q h k = k x h
read_has f (Err r) P Q h k = tt

framed : (bytes : List ℕ) (f : Frame) (letter : ℕ) (payload : List ℕ) → IsFrame bytes f → f.letter ≡ letter → f.payload ≡ payload → f.whole ≡ frame letter payload
framed bytes f letter payload shown e is = shown.whole_is ∙ ap (λ n. (n ∷ number (length f.payload)) ++ f.payload) e ∙ ap (frame letter) is

-- ---- an event

event_behind : (v : Version) (head : Head) (placed : List ReadEvent) (w : Written) (end : ℕ) (before whole : List ℕ) → before ≡ front v head placed → whole ≡ event_frame v (recorded w.event) → before ++ whole ≡ front v head (placed ++ record { event = w.event; end = end } ∷ [])
unfolding events_bytes
event_behind v head placed w end before whole told is =
    ap (λ l. l ++ whole) told
    ∙ ap (λ l. front v head placed ++ l) is
    ∙ flat_map_more (λ (e : Event). event_frame v (recorded e)) (opening v head) (map event_in placed) w.event
    ∙ ap (λ (es : List Event). opening v head ++ flat_map (λ (e : Event). event_frame v (recorded e)) es) (sym (map-append event_in placed (record { event = w.event; end = end } ∷ [])))

event_grows : (r : Ranges) (head : Head) (s : Progress) (bytes : List ℕ) (f : Frame) → IsFrame bytes f → f.letter ≡ 69 → s.before ≡ front r.version head s.placed → Grows r.version head s f.whole (event_next r s f.whole f.payload)
unfolding event_next with_event event_frame
event_grows r head s bytes f shown letter told =
    read_has (with_event s f.whole) (all_of (event_at r (knowns s) s.output f.payload)) (λ w. f.payload ≡ event_payload r.version (recorded w.event)) _ (if_read _ _ (λ w e. whole_event r (knowns s) s.output f.payload w shown.payload_bytes e)) (λ w is.
    record { told = event_behind r.version head s.placed w (length (s.before ++ f.whole)) s.before f.whole told (framed bytes f 69 (event_payload r.version (recorded w.event)) shown letter is); before = refl })

-- ---- the coverage

coverage_grows : (v : Version) (r : Ranges) (head : Head) (s : Progress) (bytes : List ℕ) (f : Frame) → IsFrame bytes f → f.letter ≡ 67 → s.before ≡ front v head s.placed → Grows v head s f.whole (coverage_next r s f.whole f.payload)
unfolding coverage_next with_stage coverage_frame
coverage_grows v r head s bytes f shown letter told =
    read_has (λ c. with_stage s f.whole (stages.Covered c)) (all_of (coverage_at r.statements (knowns s) f.payload)) (λ c. f.payload ≡ coverage_payload c) _ (if_read _ _ (λ c e. whole_coverage r.statements (knowns s) f.payload c shown.payload_bytes e)) (λ c is.
    record { told = ap (λ l. l ++ f.whole) told ∙ ap (λ l. front v head s.placed ++ l) (framed bytes f 67 (coverage_payload c) shown letter is); before = refl })

-- ---- the end

tail_covers : (earlier : List Known) (totals : Totals) (c : Coverage) (payload : List ℕ) (t : Tail) → AreBytes payload → all_of (tail_at earlier totals c payload) ≡ Ok t → t.coverage ≡ c
tail_covers earlier totals c payload t are e =
    let a = read_then (tail_at earlier totals c payload) (λ x. cond (eqb (length x.1) 0) (Ok x.0) (Err rule.Length)) t e in
    ap (λ (x : Tail). x.coverage) (sym (ends (eqb (length a.0.1) 0) a.0.0 t a.2).1) ∙ (tail_spelled earlier totals c payload a.0 are a.1).1

record Closes (c : Coverage) (payload : List ℕ) (t : Tail) : Type 0 where
  spelled : payload ≡ tail_payload t
  covers : t.coverage ≡ c

end_grows : (v : Version) (steps : ℕ) (head : Head) (s : Progress) (c : Coverage) (bytes : List ℕ) (f : Frame) → IsFrame bytes f → f.letter ≡ 84 → s.before ≡ front v head s.placed ++ coverage_frame c → Grows v head s f.whole (end_next steps s c f.whole f.payload)
unfolding end_next with_stage end_frame tail_frames
end_grows v steps head s c bytes f shown letter told =
    let totals : Totals = record { steps = steps; uses = s.uses; output = s.output } in
    let before = front v head s.placed in
    read_has (λ t. with_stage s f.whole (stages.Ended t)) (all_of (tail_at (knowns s) totals c f.payload)) (λ t. Closes c f.payload t) _
    (if_read (all_of (tail_at (knowns s) totals c f.payload)) (λ t. Closes c f.payload t) (λ t e. record { spelled = whole_tail (knowns s) totals c f.payload t shown.payload_bytes e; covers = tail_covers (knowns s) totals c f.payload t shown.payload_bytes e })) (λ t is.
    record {
      told = ap (λ l. l ++ f.whole) told ∙ ap (λ l. (before ++ coverage_frame c) ++ l) (framed bytes f 84 (tail_payload t) shown letter is.spelled) ∙ append_assoc before (coverage_frame c) (frame 84 (tail_payload t)) ∙ ap (λ (d : Coverage). before ++ (coverage_frame d ++ frame 84 (tail_payload t))) (sym is.covers);
      before = refl;
    })

-- ---- the seal

pub tested : (b : Bool) (x y : Next) (Q : Progress → Type 0) → (b ≡ true → IfOk x Q) → (b ≡ false → IfOk y Q) → IfOk (cond b x y) Q
tested true x y Q h k = h refl
tested false x y Q h k = k refl

seal_grows : (v : Version) (head : Head) (s : Progress) (t : Tail) (bytes : List ℕ) (f : Frame) → IsFrame bytes f → f.letter ≡ 83 → s.before ≡ front v head s.placed ++ tail_frames t → Grows v head s f.whole (seal_next s t f.whole f.payload)
unfolding seal_next with_stage seal_frame sealed
seal_grows v head s t bytes f shown letter told =
    let before = front v head s.placed ++ tail_frames t in
    tested (eqb (length f.payload) seal_length) _ (Err (Violates rule.Length)) _ (λ _.
    tested (bytes_eq f.payload (sha256 s.before)) (Ok (with_stage s f.whole (stages.Sealed t (sha256 s.before)))) (Err Unsealed) _ (λ same.
    let payload : f.payload ≡ sha256 s.before = (bytes_eq-Decides f.payload (sha256 s.before)).0 same in
    record {
      told = ap (λ l. s.before ++ l) (framed bytes f 83 (sha256 s.before) shown letter payload) ∙ ap (λ l. l ++ frame 83 (sha256 l)) told;
      before = refl;
    }) (λ _. tt)) (λ _. tt)

-- ---- any frame

pub stage_grows : (r : Ranges) (steps : ℕ) (head : Head) (s : Progress) (stage : Stage) (bytes : List ℕ) (f : Frame) → IsFrame bytes f → SpelledTo (front r.version head s.placed) stage s.before → Grows r.version head s f.whole (next_at r steps s stage f)
unfolding next_at open_next covered_next ended_next
stage_grows r steps head s stages.Open bytes f shown told =
    tested (eqb f.letter 69) _ _ _ (λ e. event_grows r head s bytes f shown (eqb-true f.letter 69 e) told) (λ _.
    tested (eqb f.letter 67) _ (Err (Violates rule.FrameKind)) _ (λ e. coverage_grows r.version r head s bytes f shown (eqb-true f.letter 67 e) told) (λ _. tt))
stage_grows r steps head s (stages.Covered c) bytes f shown told = tested (eqb f.letter 84) _ (Err (Violates rule.FrameKind)) _ (λ e. end_grows r.version steps head s c bytes f shown (eqb-true f.letter 84 e) told) (λ _. tt)
stage_grows r steps head s (stages.Ended t) bytes f shown told = tested (eqb f.letter 83) _ (Err (Violates rule.FrameKind)) _ (λ e. seal_grows r.version head s t bytes f shown (eqb-true f.letter 83 e) told) (λ _. tt)
stage_grows r steps head s (stages.Sealed t seal) bytes f shown told = tt
