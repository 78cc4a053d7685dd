-- What stands with a frame, in memory as the definition has it.
use Rattle.std.proofs.Common.{◌≡◌, ℕ, ◌+◌, List, [], ◌∷◌, ◌++◌, length, Result, Ok, Err, true, false, refl, sym, ap, ◌∙◌, length-append}
use Rattle.std.specs.Str.{bytes_eq}
use Rattle.std.proofs.lemmas.Bool.{eq-eqb, ne_eqb}
use Rattle.std.proofs.lemmas.List.{append-nil, map_push}
use Rattle.sha2.specs.Hashers.{Holds256}
use Rattle.sha2.specs.Sha256.{sha256}
use Rattle.wy_event.specs.declared.record.Coverage.{Coverage}
use Rattle.wy_event.specs.declared.record.Tail.{Tail}
use Rattle.wy_payload.specs.declared.fault.DamageRule.{DamageRule}
use Rattle.wy_payload.specs.declared.fault.DamageRule.TheVariants as rule
use Rattle.wy_payload.specs.declared.fault.Fault.{Fault}
use Rattle.wy_payload.specs.declared.fault.Fault.TheVariants as faults
use Rattle.wy_payload.specs.declared.ranges.Ranges.{Ranges}
use Rattle.wy_payload.specs.declared.event.Written.{Written}
use Rattle.wy_payload.specs.Ranges.{known_of}
use Rattle.wy_payload.specs.Reading.{Fails, all_of}
use Rattle.wy_payload.specs.Events.{event_at}
use Rattle.wy_payload.specs.Closing.{coverage_at, tail_at}
use Rattle.wy_frames.specs.Frames.{Frame}
use Rattle.wy_frames.specs.declared.past.Past.{Past}
use Rattle.wy_frames.specs.declared.stage.Stage.{Stage}
use Rattle.wy_frames.specs.declared.stage.Stage.TheVariants as stages
use Rattle.wy_frames.specs.Progress.{Progress, Violates, Unsealed, knowns, open_next, covered_next, ended_next, next_at, next_of, known_as_placed, read_as, with_event, with_stage, event_next, coverage_next, end_next, seal_next, seal_length}
use Rattle.wy_frames.specs.Holds.{Counts, Refuses, Stands, damaged_at}

-- what was passed behind a frame
pub record Passes (p new : Past) (whole : List ℕ) : Type 0 where
  pub at : new.at ≡ p.at + length whole
  pub hashed : (m : List ℕ) → Holds256 p.hasher m → Holds256 new.hasher (m ++ whole)

refused : {A : Type 0} (f : A → Progress) (s : Progress) (at : ℕ) (fault : Fault) (read : Result A DamageRule) → at ≡ length s.before → Fails fault read → Refuses (damaged_at at fault) s (read_as f read)
refused f s at faults.NoMemory read e h = tt
refused f s at (faults.Broken r) read e h = (e, ap (read_as f) h)

longer : (s : Progress) (p new : Past) (whole : List ℕ) → Counts p s → Passes p new whole → new.at ≡ length (s.before ++ whole)
longer s p new whole h passes = passes.at ∙ ap (λ n. n + length whole) h.at ∙ sym (length-append s.before whole)

-- ---- an event

pub event_refused : (r : Ranges) (p : Past) (s : Progress) (whole payload : List ℕ) (fault : Fault) → Counts p s → Fails fault (all_of (event_at r p.known.items p.output payload)) → Refuses (damaged_at p.at fault) s (event_next r s whole payload)
unfolding event_next
event_refused r p s whole payload fault h fails = refused (with_event s whole) s p.at fault (all_of (event_at r (knowns s) s.output payload)) h.at (rw (h.known, h.output) at fails)

pub event_stands : (r : Ranges) (p new : Past) (s : Progress) (whole payload : List ℕ) (w : Written) → Counts p s → all_of (event_at r p.known.items p.output payload) ≡ Ok w
    → new.known.items ≡ p.known.items ++ known_of w.event ∷ [] → new.uses ≡ p.uses + length w.event.uses → new.output ≡ w.output → new.stage ≡ stages.Open → Passes p new whole → Stands new (record { event = w.event; end = new.at } ∷ []) s (event_next r s whole payload)
unfolding event_next with_event
event_stands r p new s whole payload w h read known uses output stage passes =
    let again : all_of (event_at r (knowns s) s.output payload) ≡ Ok w = rw (h.known, h.output) at read in
    rw again (
      record {
        counts = record {
          known = known ∙ ap (λ l. l ++ known_of w.event ∷ []) h.known ∙ sym (map_push known_as_placed s.placed (record { event = w.event; end = length (s.before ++ whole) }));
          uses = uses ∙ ap (λ n. n + length w.event.uses) h.uses;
          output = output;
          at = longer s p new whole h passes;
          hashed = passes.hashed s.before h.hashed;
        };
        stage = stage;
      },
      ap (λ (n : ℕ). s.placed ++ record { event = w.event; end = n } ∷ []) (sym (longer s p new whole h passes)),
    )

-- ---- what adds no event

pub stage_stands : (p new : Past) (s : Progress) (whole : List ℕ) (stage : Stage) → Counts p s → new.known.items ≡ p.known.items → new.uses ≡ p.uses → new.output ≡ p.output → new.stage ≡ stage → Passes p new whole → Stands new [] s (Ok (with_stage s whole stage))
unfolding with_stage
stage_stands p new s whole stage h known uses output is passes = (
  record {
    counts = record { known = known ∙ h.known; uses = uses ∙ h.uses; output = output ∙ h.output; at = longer s p new whole h passes; hashed = passes.hashed s.before h.hashed };
    stage = is;
  },
  sym (append-nil s.placed),
)

pub coverage_refused : (r : Ranges) (p : Past) (s : Progress) (whole payload : List ℕ) (fault : Fault) → Counts p s → Fails fault (all_of (coverage_at r.statements p.known.items payload)) → Refuses (damaged_at p.at fault) s (coverage_next r s whole payload)
unfolding coverage_next
coverage_refused r p s whole payload fault h fails = refused (λ c. with_stage s whole (stages.Covered c)) s p.at fault (all_of (coverage_at r.statements (knowns s) payload)) h.at (rw h.known at fails)

pub coverage_stands : (r : Ranges) (p new : Past) (s : Progress) (whole payload : List ℕ) (c : Coverage) → Counts p s → all_of (coverage_at r.statements p.known.items payload) ≡ Ok c
    → new.known.items ≡ p.known.items → new.uses ≡ p.uses → new.output ≡ p.output → new.stage ≡ stages.Covered c → Passes p new whole → Stands new [] s (coverage_next r s whole payload)
unfolding coverage_next
coverage_stands r p new s whole payload c h read known uses output is passes =
    let again : all_of (coverage_at r.statements (knowns s) payload) ≡ Ok c = rw h.known at read in
    rw again (stage_stands p new s whole (stages.Covered c) h known uses output is passes)

pub end_refused : (steps : ℕ) (p : Past) (s : Progress) (c : Coverage) (whole payload : List ℕ) (fault : Fault) → Counts p s → Fails fault (all_of (tail_at p.known.items (record { steps = steps; uses = p.uses; output = p.output }) c payload)) → Refuses (damaged_at p.at fault) s (end_next steps s c whole payload)
unfolding end_next
end_refused steps p s c whole payload fault h fails = refused (λ t. with_stage s whole (stages.Ended t)) s p.at fault (all_of (tail_at (knowns s) (record { steps = steps; uses = s.uses; output = s.output }) c payload)) h.at (rw (h.known, h.uses, h.output) at fails)

pub end_stands : (steps : ℕ) (p new : Past) (s : Progress) (c : Coverage) (whole payload : List ℕ) (t : Tail) → Counts p s → all_of (tail_at p.known.items (record { steps = steps; uses = p.uses; output = p.output }) c payload) ≡ Ok t
    → new.known.items ≡ p.known.items → new.uses ≡ p.uses → new.output ≡ p.output → new.stage ≡ stages.Ended t → Passes p new whole → Stands new [] s (end_next steps s c whole payload)
unfolding end_next
end_stands steps p new s c whole payload t h read known uses output is passes =
    let again : all_of (tail_at (knowns s) (record { steps = steps; uses = s.uses; output = s.output }) c payload) ≡ Ok t = rw (h.known, h.uses, h.output) at read in
    rw again (stage_stands p new s whole (stages.Ended t) h known uses output is passes)

-- ---- the seal

pub seal_short : (p : Past) (s : Progress) (t : Tail) (whole payload : List ℕ) → Counts p s → (length payload ≡ seal_length → ⊥) → Refuses (damaged_at p.at (faults.Broken rule.Length)) s (seal_next s t whole payload)
unfolding seal_next
seal_short p s t whole payload h short = (h.at, rw (ne_eqb (length payload) seal_length short) refl)

pub seal_wrong : (s : Progress) (t : Tail) (digest whole payload : List ℕ) → length payload ≡ seal_length → digest ≡ sha256 s.before → bytes_eq payload digest ≡ false → seal_next s t whole payload ≡ Err Unsealed
unfolding seal_next
seal_wrong s t digest whole payload long is wrong =
    let again : bytes_eq payload (sha256 s.before) ≡ false = rw is at wrong in
    rw (eq-eqb (length payload) seal_length long, again) refl

pub seal_stands : (p new : Past) (s : Progress) (t : Tail) (digest whole payload : List ℕ) → Counts p s → length payload ≡ seal_length → digest ≡ sha256 s.before → bytes_eq payload digest ≡ true
    → new.known.items ≡ p.known.items → new.uses ≡ p.uses → new.output ≡ p.output → new.stage ≡ stages.Sealed t digest → Passes p new whole → Stands new [] s (seal_next s t whole payload)
unfolding seal_next
seal_stands p new s t digest whole payload h long is same known uses output stage passes =
    let again : bytes_eq payload (sha256 s.before) ≡ true = rw is at same in
    rw (eq-eqb (length payload) seal_length long, again) (stage_stands p new s whole (stages.Sealed t (sha256 s.before)) h known uses output (stage ∙ ap (stages.Sealed t) is) passes)

-- ---- by the letter of a frame

pub open_is_event : (r : Ranges) (s : Progress) (f : Frame) → f.letter ≡ 69 → open_next r s f ≡ event_next r s f.whole f.payload
unfolding open_next
open_is_event r s f e = rw (eq-eqb f.letter 69 e) refl

pub open_is_coverage : (r : Ranges) (s : Progress) (f : Frame) → (f.letter ≡ 69 → ⊥) → f.letter ≡ 67 → open_next r s f ≡ coverage_next r s f.whole f.payload
unfolding open_next
open_is_coverage r s f n e = rw (ne_eqb f.letter 69 n, eq-eqb f.letter 67 e) refl

pub open_is_wrong : (r : Ranges) (s : Progress) (f : Frame) → (f.letter ≡ 69 → ⊥) → (f.letter ≡ 67 → ⊥) → open_next r s f ≡ Err (Violates rule.FrameKind)
unfolding open_next
open_is_wrong r s f n m = rw (ne_eqb f.letter 69 n, ne_eqb f.letter 67 m) refl

pub covered_is_end : (steps : ℕ) (s : Progress) (c : Coverage) (f : Frame) → f.letter ≡ 84 → covered_next steps s c f ≡ end_next steps s c f.whole f.payload
unfolding covered_next
covered_is_end steps s c f e = rw (eq-eqb f.letter 84 e) refl

pub covered_is_wrong : (steps : ℕ) (s : Progress) (c : Coverage) (f : Frame) → (f.letter ≡ 84 → ⊥) → covered_next steps s c f ≡ Err (Violates rule.FrameKind)
unfolding covered_next
covered_is_wrong steps s c f n = rw (ne_eqb f.letter 84 n) refl

pub ended_is_seal : (s : Progress) (t : Tail) (f : Frame) → f.letter ≡ 83 → ended_next s t f ≡ seal_next s t f.whole f.payload
unfolding ended_next
ended_is_seal s t f e = rw (eq-eqb f.letter 83 e) refl

pub ended_is_wrong : (s : Progress) (t : Tail) (f : Frame) → (f.letter ≡ 83 → ⊥) → ended_next s t f ≡ Err (Violates rule.FrameKind)
unfolding ended_next
ended_is_wrong s t f n = rw (ne_eqb f.letter 83 n) refl

pub next_when : (r : Ranges) (steps : ℕ) (s : Progress) (f : Frame) (stage : Stage) → s.stage ≡ stage → next_of r steps s f ≡ next_at r steps s stage f
next_when r steps s f stage e = ap (λ x. next_at r steps s x f) e
