-- What stands of the frames that are read keeps the rules.
use Rattle.std.proofs.Common.{◌≡◌, ℕ, zero, suc, ◌+◌, ◌≤◌, Bool, true, false, cond, eqb, List, [], ◌∷◌, ◌++◌, map, length, Option, Some, Result, Ok, Err, refl, sym, ap, ap₂, ◌∙◌, subst, arith}
use Rattle.std.specs.Prelude.{None as Absent}
use Rattle.std.specs.Prelude.{IfOk, slice_get, take}
use Rattle.std.specs.Str.{bytes_eq}
use Rattle.std.proofs.lemmas.Result.{IfOk-at_ok}
use Rattle.sha2.specs.Sha256.{sha256}
use Rattle.wy_kernel.specs.Limits.{output_limit}
use Rattle.wy_event.specs.declared.record.Coverage.{Coverage}
use Rattle.wy_event.specs.declared.record.Event.{Event}
use Rattle.wy_event.specs.declared.record.Head.{Head}
use Rattle.wy_event.specs.declared.record.Tail.{Tail}
use Rattle.wy_event.specs.declared.record.Version.{Version}
use Rattle.wy_event.specs.Record.{Recorded, recorded}
use Rattle.wy_payload.specs.declared.closing.Totals.{Totals}
use Rattle.wy_payload.specs.declared.event.Written.{Written}
use Rattle.wy_payload.specs.declared.fault.DamageRule.{DamageRule}
use Rattle.wy_payload.specs.declared.fault.DamageRule.TheVariants as rule
use Rattle.wy_payload.specs.declared.known.Known.{Known}
use Rattle.wy_payload.specs.declared.ranges.Ranges.{Ranges}
use Rattle.wy_payload.specs.Closing.{coverage_at, tail_at}
use Rattle.wy_payload.specs.Events.{event_at}
use Rattle.wy_payload.specs.Reading.{all_of}
use Rattle.wy_payload.specs.Values.{output_of}
use Rattle.wy_frames.specs.declared.stage.ReadEvent.{ReadEvent}
use Rattle.wy_frames.specs.declared.stage.Stage.{Stage}
use Rattle.wy_frames.specs.declared.stage.Stage.TheVariants as stages
use Rattle.wy_frames.specs.Frames.{Frame, frame_of}
use Rattle.wy_frames.specs.Progress.{Next, Progress, Unsealed, Violates, coverage_next, covered_next, end_next, ended_next, event_in, event_next, known_as_placed, knowns, next_at, next_of, open_next, read_as, seal_length, seal_next, start, with_event, with_stage}
use Rattle.wy_frames.specs.Scan.{Goes, Leaves, frame, is_passed, nothing, turn, turn_frame}
use Rattle.wy_frames.proofs.Pieces.{next_goes, no_frame, turn_is}
use Rattle.law_reading.specs.Readable.{AllMayStand, MayStand, known_in, printed, uses_in}
use Rattle.law_reading.proofs.Runs.{printed_one, uses_more}
use Rattle.law_migrated.proofs.Ends.{CoverageStands, TailStands, coverage_has, tail_has}
use Rattle.law_migrated.proofs.Events.{EventStands, event_has, known_again}
use Rattle.law_migrated.proofs.Heads.{all_has}

-- ---- records

abbrev pub records : List ReadEvent → List Recorded
records placed = map recorded (map event_in placed)

pub knowns_are : (placed : List ReadEvent) → map known_as_placed placed ≡ map known_in (records placed)
knowns_are [] = refl
knowns_are (x ∷ placed) = ap₂ (λ (k : Known) (ks : List Known). k ∷ ks) (known_again x.event) (knowns_are placed)

records_more : (placed : List ReadEvent) (x : ReadEvent) → records (placed ++ x ∷ []) ≡ records placed ++ recorded x.event ∷ []
records_more [] x = refl
records_more (y ∷ placed) x = ap (λ (l : List Recorded). recorded y.event ∷ l) (records_more placed x)

one_more : (P : List Recorded → Recorded → Type 0) (rs : List Recorded) (e : Recorded) → ((n : ℕ) (f : Recorded) → slice_get rs n ≡ Some f → P (take n rs) f) → P rs e → (n : ℕ) (f : Recorded) → slice_get (rs ++ e ∷ []) n ≡ Some f → P (take n (rs ++ e ∷ [])) f
one_more P [] e before last zero f is = let same : e ≡ f = cc in subst (P []) same last
one_more P [] e before last (suc n) f is = absurd cc
one_more P (d ∷ rs) e before last zero f is = before zero f is
one_more P (d ∷ rs) e before last (suc n) f is = one_more (λ (l : List Recorded). P (d ∷ l)) rs e (λ m. before (suc m)) last n f is

-- ---- what stands

-- the events so far keep the rules, and are counted
pub record SoFar (r : Ranges) (placed : List ReadEvent) (uses output : ℕ) : Type 0 where
  pub may : AllMayStand r (records placed)
  pub uses_are : uses ≡ uses_in (records placed)
  pub output_is : output ≡ printed r [] (records placed)
  pub little : output ≤ output_limit

pub record EndKept (r : Ranges) (steps : ℕ) (placed : List ReadEvent) (uses output : ℕ) (t : Tail) : Type 0 where
  pub coverage : CoverageStands r.statements (map known_as_placed placed) t.coverage
  pub tail : TailStands (map known_as_placed placed) (record { steps = steps; uses = uses; output = output }) t.coverage t

-- what has come behind them keeps the rules
abbrev pub StageKept : Ranges → ℕ → List ReadEvent → ℕ → ℕ → Stage → Type 0
StageKept r steps placed uses output stages.Open = Unit {0}
StageKept r steps placed uses output (stages.Covered c) = CoverageStands r.statements (map known_as_placed placed) c
StageKept r steps placed uses output (stages.Ended t) = EndKept r steps placed uses output t
StageKept r steps placed uses output (stages.Sealed t seal) = EndKept r steps placed uses output t

pub record Kept (r : Ranges) (steps : ℕ) (s : Progress) : Type 0 where
  pub so_far : SoFar r s.placed s.uses s.output
  pub stage : StageKept r steps s.placed s.uses s.output s.stage

-- ---- one frame more

read_has : {A : Type 0} (f : A → Progress) (x : Result A DamageRule) (P : A → Type 0) (Q : Progress → Type 0) → IfOk x P → ((y : A) → P y → Q (f y)) → IfOk (read_as f x) Q
read_has f (Ok y) P Q h k = k y h
read_has f (Err d) P Q h k = tt

either : (Q : Progress → Type 0) (b : Bool) (x y : Next) → IfOk x Q → IfOk y Q → IfOk (cond b x y) Q
either Q true x y h k = h
either Q false x y h k = k

uses_said : (rs : List Recorded) (e : Event) → uses_in rs + length e.uses ≡ uses_in (rs ++ recorded e ∷ [])
unfolding recorded
uses_said rs e = sym (uses_more rs (recorded e))

output_said : (r : Ranges) (rs : List Recorded) (e : Event) → printed r [] rs + output_of r (map known_in rs) e.kind e.site e.value ≡ printed r [] (rs ++ recorded e ∷ [])
unfolding recorded
output_said r rs e = sym (printed_one r rs (recorded e))

module _ (r : Ranges) (steps : ℕ) (s : Progress) (so_far : SoFar r s.placed s.uses s.output) where
  with_one : (whole : List ℕ) (w : Written) → EventStands r (knowns s) s.output w → Kept r steps (with_event s whole w)
  unfolding with_event
  with_one whole w is =
      let rs = records s.placed in
      let e = recorded w.event in
      let x : ReadEvent = record { event = w.event; end = length (s.before ++ whole) } in
      let known : knowns s ≡ map known_in rs = knowns_are s.placed in
      let more : records (s.placed ++ x ∷ []) ≡ rs ++ e ∷ [] = records_more s.placed x in
      record {
        so_far = record {
          may = subst (λ (l : List Recorded). AllMayStand r l) (sym more) (one_more (λ (l : List Recorded) (f : Recorded). MayStand r (map known_in l) f) rs e so_far.may (subst (λ (l : List Known). MayStand r l e) known is.may));
          uses_are = ap (λ n. n + length w.event.uses) so_far.uses_are ∙ uses_said rs w.event ∙ ap uses_in (sym more);
          output_is = is.total ∙ ap₂ (λ (n : ℕ) (l : List Known). n + output_of r l w.event.kind w.event.site w.event.value) so_far.output_is known ∙ output_said r rs w.event ∙ ap (printed r []) (sym more);
          little = is.little;
        };
        stage = tt;
      }

  event_keeps : (whole payload : List ℕ) → IfOk (event_next r s whole payload) (Kept r steps)
  unfolding event_next
  event_keeps whole payload = read_has (with_event s whole) (all_of (event_at r (knowns s) s.output payload)) (EventStands r (knowns s) s.output) (Kept r steps) (all_has (event_at r (knowns s) s.output payload) (EventStands r (knowns s) s.output) (event_has r (knowns s) s.output payload)) (λ w is. with_one whole w is)

  coverage_keeps : (whole payload : List ℕ) → IfOk (coverage_next r s whole payload) (Kept r steps)
  unfolding coverage_next with_stage
  coverage_keeps whole payload = read_has (λ c. with_stage s whole (stages.Covered c)) (all_of (coverage_at r.statements (knowns s) payload)) (CoverageStands r.statements (knowns s)) (Kept r steps)
      (all_has (coverage_at r.statements (knowns s) payload) (CoverageStands r.statements (knowns s)) (coverage_has r.statements (knowns s) payload)) (λ c is. record { so_far = so_far; stage = is })

  end_keeps : (c : Coverage) (whole payload : List ℕ) → CoverageStands r.statements (knowns s) c → IfOk (end_next steps s c whole payload) (Kept r steps)
  unfolding end_next with_stage
  end_keeps c whole payload covered =
      let totals : Totals = record { steps = steps; uses = s.uses; output = s.output } in
      read_has (λ t. with_stage s whole (stages.Ended t)) (all_of (tail_at (knowns s) totals c payload)) (TailStands (knowns s) totals c) (Kept r steps)
      (all_has (tail_at (knowns s) totals c payload) (TailStands (knowns s) totals c) (tail_has (knowns s) totals c payload)) (λ t is.
      record {
        so_far = so_far;
        stage = record {
          coverage = subst (λ (d : Coverage). CoverageStands r.statements (knowns s) d) (sym is.coverage) covered;
          tail = subst (λ (d : Coverage). TailStands (knowns s) totals d t) (sym is.coverage) is;
        };
      })

  seal_keeps : (t : Tail) (whole payload : List ℕ) → EndKept r steps s.placed s.uses s.output t → IfOk (seal_next s t whole payload) (Kept r steps)
  unfolding seal_next with_stage
  seal_keeps t whole payload is = either (Kept r steps) (eqb (length payload) seal_length) _ (Err (Violates rule.Length)) (either (Kept r steps) (bytes_eq payload (sha256 s.before)) (Ok (with_stage s whole (stages.Sealed t (sha256 s.before)))) (Err Unsealed) (record { so_far = so_far; stage = is }) tt) tt

  stage_keeps : (stage : Stage) (f : Frame) → StageKept r steps s.placed s.uses s.output stage → IfOk (next_at r steps s stage f) (Kept r steps)
  unfolding next_at open_next covered_next ended_next
  stage_keeps stages.Open f is = either (Kept r steps) (eqb f.letter 69) _ _ (event_keeps f.whole f.payload) (either (Kept r steps) (eqb f.letter 67) _ (Err (Violates rule.FrameKind)) (coverage_keeps f.whole f.payload) tt)
  stage_keeps (stages.Covered c) f is = either (Kept r steps) (eqb f.letter 84) _ (Err (Violates rule.FrameKind)) (end_keeps c f.whole f.payload is) tt
  stage_keeps (stages.Ended t) f is = either (Kept r steps) (eqb f.letter 83) _ (Err (Violates rule.FrameKind)) (seal_keeps t f.whole f.payload is) tt
  stage_keeps (stages.Sealed t seal) f is = tt

-- ---- all frames

turn_keeps : (r : Ranges) (steps : ℕ) (s t : Progress) (rest others : List ℕ) → Kept r steps s → turn r steps s rest ≡ Goes t others → Kept r steps t
turn_keeps r steps s t rest others kept e = by (frame_of rest) (sym (turn_is r steps s rest) ∙ e) where
  by : (o : Option Frame) → turn_frame (next_of r steps s) s rest o ≡ Goes t others → Kept r steps t
  by Absent is = absurd (no_frame (length s.before) (is_passed s.stage rest) t others is)
  by (Some f) is = IfOk-at_ok (Kept r steps) (next_goes s f.rest (next_of r steps s f) t others is).0 (stage_keeps r steps s kept.so_far s.stage f kept.stage)

start_kept : (r : Ranges) (steps : ℕ) (v : Version) (head : Head) → Kept r steps (start v head)
unfolding start uses_in printed
start_kept r steps v head = record { so_far = record { may = λ n e is. absurd cc; uses_are = refl; output_is = refl; little = omega arith }; stage = tt }

pub all_kept : (r : Ranges) (steps : ℕ) (v : Version) (head : Head) (fed : List ℕ) (t : Progress) (rest : List ℕ) → Leaves r steps (start v head) fed t rest → Kept r steps t
all_kept r steps v head fed _ _ nothing = start_kept r steps v head
all_kept r steps v head fed _ _ (frame s rest t others before e) = turn_keeps r steps s t rest others (all_kept r steps v head fed s rest before) e
