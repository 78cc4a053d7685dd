-- The bytes of a trace that is read whole end with its seal.
use Rattle.std.proofs.Common.{◌≡◌, ℕ, ◌+◌, ◌-◌, ◌≤◌, Bool, true, false, cond, eqb, ltb, List, [], ◌∷◌, ◌++◌, length, length-append, take, drop, append_assoc, take-append-drop, Option, Some, Result, Ok, Err, refl, sym, ap, ◌∙◌, subst, arith}
use Rattle.std.specs.Prelude.{None as Absent}
use Rattle.std.specs.Prelude.{IfOk, slice_index}
use Rattle.std.specs.Str.{bytes_eq}
use Rattle.std.proofs.Math.Seq.{drop-append_seam}
use Rattle.std.proofs.lemmas.List.{append-nil}
use Rattle.std.proofs.lemmas.Result.{IfOk-at_ok}
use Rattle.std.proofs.lemmas.Slice.Eq.{bytes_eq-Decides}
use Rattle.sha2.specs.Sha256.{sha256}
use Rattle.sha2.proofs.Facts256.{length-sha256}
use Rattle.wy_event.specs.declared.record.Version.{Version}
use Rattle.wy_event.specs.declared.record.Head.{Head}
use Rattle.wy_event.specs.declared.record.Tail.{Tail}
use Rattle.wy_payload.specs.declared.fault.DamageRule.{DamageRule}
use Rattle.wy_payload.specs.declared.fault.DamageRule.TheVariants as rule
use Rattle.wy_payload.specs.declared.closing.Totals.{Totals}
use Rattle.wy_payload.specs.declared.ranges.Ranges.{Ranges}
use Rattle.wy_payload.specs.Ranges.{ranges_of}
use Rattle.wy_payload.specs.Reading.{all_of}
use Rattle.wy_payload.specs.Events.{event_at}
use Rattle.wy_payload.specs.Closing.{coverage_at, tail_at}
use Rattle.wy_spelling.specs.Spelling.{opening}
use Rattle.wy_frames.specs.declared.stage.Stage.{Stage}
use Rattle.wy_frames.specs.declared.stage.Stage.TheVariants as stages
use Rattle.wy_frames.specs.Frames.{Frame, frame_of, frame_of_length, opening_length, said_length}
use Rattle.wy_frames.specs.Progress.{Progress, Next, Violates, Unsealed, coverage_next, covered_next, end_next, ended_next, event_next, knowns, next_at, next_of, open_next, read_as, seal_length, seal_next, start, with_event, with_stage}
use Rattle.wy_frames.specs.Scan.{Goes, Waits, Leaves, frame, is_passed, nothing, turn, turn_frame, turn_next, without_frame}
use Rattle.wy_frames.proofs.Kept.{kept}
use Rattle.wy_frames.proofs.Pieces.{next_goes, no_frame, turn_is}
use Rattle.wy_frames.proofs.Scans.{inner_is, some_is}
use Rattle.law_placing.specs.Ended.{ReadTracesEndSealed}

-- where the seal has come, what stands ends with it
abbrev SealStands : List ℕ → Stage → Type 0
SealStands before (stages.Sealed t seal) = (front : List ℕ) × (before ≡ front ++ seal) × (length seal ≡ 32)
SealStands before _ = Unit {0}

abbrev Stands : Progress → Type 0
Stands s = SealStands s.before s.stage

-- ---- by the frame that is read

read_any : {A : Type 0} (f : A → Progress) (x : Result A DamageRule) → ((y : A) → Stands (f y)) → IfOk (read_as f x) Stands
read_any f (Ok y) k = k y
read_any f (Err d) k = tt

either : (b : Bool) (x y : Next) → IfOk x Stands → IfOk y Stands → IfOk (cond b x y) Stands
either true x y h k = h
either false x y h k = k

event_stands : (r : Ranges) (s : Progress) (whole payload : List ℕ) → IfOk (event_next r s whole payload) Stands
unfolding event_next with_event
event_stands r s whole payload = read_any (with_event s whole) (all_of (event_at r (knowns s) s.output payload)) (λ w. tt)

coverage_stands : (r : Ranges) (s : Progress) (whole payload : List ℕ) → IfOk (coverage_next r s whole payload) Stands
unfolding coverage_next with_stage
coverage_stands r s whole payload = read_any (λ c. with_stage s whole (stages.Covered c)) (all_of (coverage_at r.statements (knowns s) payload)) (λ c. tt)

end_stands : (steps : ℕ) (s : Progress) (c : _) (whole payload : List ℕ) → IfOk (end_next steps s c whole payload) Stands
unfolding end_next with_stage
end_stands steps s c whole payload =
    let totals : Totals = record { steps = steps; uses = s.uses; output = s.output } in
    read_any (λ t. with_stage s whole (stages.Ended t)) (all_of (tail_at (knowns s) totals c payload)) (λ t. tt)

seal_stands : (s : Progress) (t : Tail) (whole payload : List ℕ) → payload ≡ drop opening_length whole → IfOk (seal_next s t whole payload) Stands
unfolding seal_next with_stage
seal_stands s t whole payload is = either (eqb (length payload) seal_length) _ (Err (Violates rule.Length)) (by (bytes_eq payload (sha256 s.before)) refl) tt where
  here : payload ≡ sha256 s.before → SealStands (s.before ++ whole) (stages.Sealed t (sha256 s.before))
  here same =
      let parts : whole ≡ take opening_length whole ++ sha256 s.before = sym (take-append-drop opening_length whole) ∙ ap (λ l. take opening_length whole ++ l) (sym is ∙ same) in
      (s.before ++ take opening_length whole, ap (λ l. s.before ++ l) parts ∙ sym (append_assoc s.before (take opening_length whole) (sha256 s.before)), length-sha256 s.before)

  by : (b : Bool) → bytes_eq payload (sha256 s.before) ≡ b → IfOk (cond b (Ok (with_stage s whole (stages.Sealed t (sha256 s.before)))) (Err Unsealed)) Stands
  by true same = here ((bytes_eq-Decides payload (sha256 s.before)).0 same)
  by false same = tt

stage_stands : (r : Ranges) (steps : ℕ) (s : Progress) (stage : Stage) (f : Frame) → f.payload ≡ drop opening_length f.whole → IfOk (next_at r steps s stage f) Stands
unfolding next_at open_next covered_next ended_next
stage_stands r steps s stages.Open f is = either (eqb f.letter 69) _ _ (event_stands r s f.whole f.payload) (either (eqb f.letter 67) _ (Err (Violates rule.FrameKind)) (coverage_stands r s f.whole f.payload) tt)
stage_stands r steps s (stages.Covered c) f is = either (eqb f.letter 84) _ (Err (Violates rule.FrameKind)) (end_stands steps s c f.whole f.payload) tt
stage_stands r steps s (stages.Ended t) f is = either (eqb f.letter 83) _ (Err (Violates rule.FrameKind)) (seal_stands s t f.whole f.payload is) tt
stage_stands r steps s (stages.Sealed t seal) f is = tt

payload_in : (bytes : List ℕ) (f : Frame) → frame_of bytes ≡ Some f → f.payload ≡ drop opening_length f.whole
unfolding frame_of frame_of_length
payload_in bytes f e =
    let n = opening_length + said_length bytes in
    let made : Frame = record { letter = slice_index bytes 0; payload = drop opening_length (take n bytes); whole = take n bytes; rest = drop n bytes } in
    let outer = inner_is _ _ f e in
    let inner = some_is (ltb (length bytes) n) made f outer.1 in
    sym (ap (λ (g : Frame). g.payload) inner.1) ∙ ap (λ (g : Frame). drop opening_length g.whole) inner.1

turn_stands : (r : Ranges) (steps : ℕ) (s t : Progress) (rest others : List ℕ) → turn r steps s rest ≡ Goes t others → Stands t
turn_stands r steps s t rest others e = by (frame_of rest) refl (sym (turn_is r steps s rest) ∙ e) where
  by : (o : Option Frame) → frame_of rest ≡ o → turn_frame (next_of r steps s) s rest o ≡ Goes t others → Stands t
  by Absent found is = absurd (no_frame (length s.before) (is_passed s.stage rest) t others is)
  by (Some f) found is = IfOk-at_ok Stands (next_goes s f.rest (next_of r steps s f) t others is).0 (stage_stands r steps s s.stage f (payload_in rest f found))

begun : (v : Version) (head : Head) → Stands (start v head)
unfolding start
begun v head = tt

all_stand : (r : Ranges) (steps : ℕ) (v : Version) (head : Head) (fed : List ℕ) (t : Progress) (rest : List ℕ) → Leaves r steps (start v head) fed t rest → Stands t
all_stand r steps v head fed _ _ nothing = begun v head
all_stand r steps v head fed _ _ (frame s rest t others before e) = turn_stands r steps s t rest others e

-- ---- nothing is left behind it

behind_seal : (r : Ranges) (steps : ℕ) (t : Progress) (tail : Tail) (seal : List ℕ) (f : Frame) → next_at r steps t (stages.Sealed tail seal) f ≡ Err (Violates rule.After)
unfolding next_at
behind_seal r steps t tail seal f = refl

none_left : (r : Ranges) (steps : ℕ) (t : Progress) (rest : List ℕ) (tail : Tail) (seal : List ℕ) → t.stage ≡ stages.Sealed tail seal → turn r steps t rest ≡ Waits → rest ≡ []
none_left r steps t rest tail seal sealed waits = by (frame_of rest) rest (sym (turn_is r steps t rest) ∙ waits) where
  nothing_passed : (b : Bool) → without_frame (length t.before) b ≡ Waits → b ≡ false
  nothing_passed true e = absurd cc
  nothing_passed false e = refl

  empty : (l : List ℕ) → is_passed (stages.Sealed tail seal) l ≡ false → l ≡ []
  empty [] e = refl
  empty (b ∷ l) e = absurd cc

  fails : (f : Frame) → turn_next t f.rest (next_of r steps t f) ≡ Waits → ⊥
  fails f e =
      let is : next_of r steps t f ≡ Err (Violates rule.After) = ap (λ (s : Stage). next_at r steps t s f) sealed ∙ behind_seal r steps t tail seal f in
      let both : turn_next t f.rest (Err (Violates rule.After)) ≡ Waits = ap (turn_next t f.rest) (sym is) ∙ e in cc

  by : (o : Option Frame) (l : List ℕ) → turn_frame (next_of r steps t) t l o ≡ Waits → l ≡ []
  by Absent l e = empty l (ap (λ (s : Stage). is_passed s l) (sym sealed) ∙ nothing_passed (is_passed t.stage l) e)
  by (Some f) l e = absurd (fails f e)

-- what stands in front of thirty-two bytes
ends_with : (bytes front end : List ℕ) → bytes ≡ front ++ end → length end ≡ 32 → (32 ≤ length bytes) × (drop (length bytes - 32) bytes ≡ end)
ends_with bytes front end is long =
    let all : length bytes ≡ length front + 32 = ap length is ∙ length-append front end ∙ ap (λ n. length front + n) long in
    let left : length bytes - 32 ≡ length front = omega (arith, all) in
    (omega (arith, all), ap (λ n. drop n bytes) left ∙ ap (drop (length front)) is ∙ drop-append_seam front end)

before_start : (v : Version) (head : Head) → (start v head).before ≡ opening v head
unfolding start
before_start v head = refl

pub end_sealed : ReadTracesEndSealed
end_sealed v p head fed t rest tail seal leaves waits sealed =
    let r = ranges_of v p in
    let stands : SealStands t.before (stages.Sealed tail seal) = subst (SealStands t.before) sealed (all_stand r head.steps v head fed t rest leaves) in
    let all : t.before ≡ opening v head ++ fed = sym (append-nil t.before) ∙ ap (λ l. t.before ++ l) (sym (none_left r head.steps t rest tail seal sealed waits)) ∙ kept r head.steps (start v head) fed t rest leaves ∙ ap (λ l. l ++ fed) (before_start v head) in
    ends_with (opening v head ++ fed) stands.0 seal (sym all ∙ stands.1) stands.2
