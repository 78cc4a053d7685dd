-- The coverage and the end that are read keep the rules of a reader, and so does the end of all frames that stand.
use Rattle.std.proofs.Common.{◌≡◌, ℕ, zero, suc, ◌<◌, ◌≤◌, Bool, true, false, cond, eqb, List, ◌∷◌, length, Option, Some, Result, Ok, Err, refl, sym, ap, ◌∙◌, subst, arith}
use Rattle.std.specs.Prelude.{None as Absent}
use Rattle.std.specs.Prelude.{IfOk, nat_le, slice_get}
use Rattle.std.specs.Int.{w8, w32}
use Rattle.std.specs.Str.{bytes_eq}
use Rattle.std.proofs.lemmas.Bool.{eqb-true, leb-true}
use Rattle.std.proofs.lemmas.List.{length-map}
use Rattle.std.proofs.lemmas.Option.{slice_get_within}
use Rattle.std.proofs.lemmas.Result.{IfOk-at_ok}
use Rattle.sha2.specs.Sha256.{sha256}
use Rattle.wy_kernel.specs.declared.program.Program.{Program}
use Rattle.wy_event.specs.declared.record.Version.{Version}
use Rattle.wy_event.specs.declared.record.Coverage.{Coverage}
use Rattle.wy_event.specs.declared.record.Head.{Head}
use Rattle.wy_event.specs.declared.record.Tail.{Tail}
use Rattle.wy_payload.specs.declared.fault.DamageRule.{DamageRule}
use Rattle.wy_payload.specs.declared.fault.DamageRule.TheVariants as rule
use Rattle.wy_payload.specs.declared.closing.Totals.{Totals}
use Rattle.wy_payload.specs.declared.known.Known.{Known}
use Rattle.wy_payload.specs.declared.known.Role.TheVariants as role
use Rattle.wy_payload.specs.declared.ranges.Ranges.{Ranges}
use Rattle.wy_payload.specs.Ranges.{ranges_of}
use Rattle.wy_payload.specs.Rules.{Broken, in_range, reference_rule, refers_to, unless}
use Rattle.wy_payload.specs.Reading.{◌>>=◌, Read, all_of, at_most_at, number_at, passed, rows_from}
use Rattle.wy_payload.specs.Events.{event_at}
use Rattle.wy_payload.specs.Closing.{cover_at, count_rule, counts_at, coverage_at, is_thrown, last_rule, tail_at}
use Rattle.wy_frames.specs.declared.stage.Stage.{Stage}
use Rattle.wy_frames.specs.declared.stage.Stage.TheVariants as stages
use Rattle.wy_frames.specs.Frames.{Frame, frame_of}
use Rattle.wy_frames.specs.Progress.{Progress, Next, Violates, Unsealed, coverage_next, covered_next, end_next, ended_next, event_next, known_as_placed, knowns, next_at, next_of, open_next, read_as, seal_length, seal_next, start, with_event, with_stage}
use Rattle.wy_frames.specs.Scan.{Goes, Leaves, frame, is_passed, nothing, turn, turn_frame}
use Rattle.wy_frames.proofs.Pieces.{next_goes, no_frame, turn_is}
use Rattle.law_placing.specs.Ended.{EndStands, ReadEndsStand}

-- ---- steps of a reader, where it does not fail

free : {A B : Type 0} (r : Result A DamageRule) (f : A → Result B DamageRule) (Q : B → Type 0) → ((x : A) → IfOk (f x) Q) → IfOk (r >>= f) Q
free (Ok x) f Q h = h x
free (Err d) f Q h = tt

when_passed : {A B : Type 0} (broken : Broken) (x : A) (f : A → Result B DamageRule) (Q : B → Type 0) → (broken ≡ Absent → IfOk (f x) Q) → IfOk (passed broken x >>= f) Q
when_passed Absent x f Q h = h refl
when_passed (Some d) x f Q h = tt

after : {A B : Type 0} (r : Result A DamageRule) (f : A → Result B DamageRule) (P : A → Type 0) (Q : B → Type 0) → IfOk r P → ((x : A) → P x → IfOk (f x) Q) → IfOk (r >>= f) Q
after (Ok x) f P Q is h = h x is
after (Err d) f P Q is h = tt

ended : {A : Type 0} (P : A → Type 0) (b : Bool) (x : A) → P x → IfOk (cond b (Ok x) (Err rule.Length)) P
ended P true x has = has
ended P false x has = tt

all_has : {A : Type 0} (r : Read A) (P : A → Type 0) → IfOk r (λ x. P x.0) → IfOk (all_of r) P
all_has r P is = after r (λ x. cond (eqb (length x.1) 0) (Ok x.0) (Err rule.Length)) (λ x. P x.0) P is (λ x has. ended P (eqb (length x.1) 0) x.0 has)

unless_true : (b : Bool) (d : DamageRule) → unless b d ≡ Absent → b ≡ true
unless_true true d is = refl
unless_true false d is = absurd cc

-- ---- a coverage has as many covers as are wanted

rows_are : {X : Type 0} (read : List ℕ → Read X) (count : ℕ) (bytes : List ℕ) → IfOk (rows_from read count bytes) (λ x. length x.0 ≡ count)
unfolding rows_from
rows_are read zero bytes = refl
rows_are read (suc count) bytes = free (read bytes) (λ first. rows_from read count first.1 >>= λ others. Ok (first.0 ∷ others.0, others.1)) _ (λ first.
    after (rows_from read count first.1) (λ others. Ok (first.0 ∷ others.0, others.1)) (λ x. length x.0 ≡ count) _ (rows_are read count first.1) (λ others is. ap suc is))

abbrev Covers : ℕ → Coverage → Type 0
Covers statements c = length c.statements ≡ statements

covers_are : (statements : ℕ) (earlier : List Known) (bytes : List ℕ) → IfOk (coverage_at statements earlier bytes) (λ x. Covers statements x.0)
unfolding coverage_at
covers_are statements earlier bytes = free (number_at w32 bytes) (λ count. passed (count_rule statements count.0) count.1 >>= λ rest. rows_from (cover_at earlier) count.0 rest >>= λ covers. Ok (record { statements = covers.0 }, covers.1)) _ (λ count.
    when_passed (count_rule statements count.0) count.1 (λ rest. rows_from (cover_at earlier) count.0 rest >>= λ covers. Ok (record { statements = covers.0 }, covers.1)) _ (λ counted.
    after (rows_from (cover_at earlier) count.0 count.1) (λ covers. Ok (record { statements = covers.0 }, covers.1)) (λ x. length x.0 ≡ count.0) _ (rows_are (cover_at earlier) count.0 count.1) (λ covers many.
    many ∙ eqb-true count.0 statements (unless_true (eqb count.0 statements) rule.Count counted))))

-- ---- an end

thrown_there : (earlier : List Known) (n : ℕ) → reference_rule role.Throw earlier n ≡ Absent → n < length earlier
unfolding reference_rule
thrown_there earlier n is = by (slice_get earlier n) refl is where
  by : (o : Option Known) → slice_get earlier n ≡ o → refers_to role.Throw o ≡ Absent → n < length earlier
  by Absent found none = absurd cc
  by (Some k) found none = slice_get_within earlier n k found

last_there : (earlier : List Known) (stop n : ℕ) → last_rule earlier stop n ≡ Absent → is_thrown stop ≡ true → n < length earlier
unfolding last_rule
last_there earlier stop n is thrown = thrown_there earlier n (sym (ap (λ b. cond b (reference_rule role.Throw earlier n) (in_range (eqb n 4294967295))) thrown) ∙ is)

record Ends (earlier : List Known) (c : Coverage) (t : Tail) : Type 0 where
  covers : t.coverage ≡ c
  stop : t.stop ≤ 11
  last : is_thrown t.stop ≡ true → t.last < length earlier

end_is : (earlier : List Known) (totals : Totals) (c : Coverage) (bytes : List ℕ) → IfOk (tail_at earlier totals c bytes) (λ x. Ends earlier c x.0)
unfolding tail_at
end_is earlier totals c bytes = free (number_at w8 bytes) _ (λ x. Ends earlier c x.0) (λ stop.
    when_passed (in_range (nat_le stop.0 11)) stop.1 _ (λ x. Ends earlier c x.0) (λ few.
    free (number_at w32 stop.1) _ (λ x. Ends earlier c x.0) (λ last.
    when_passed (last_rule earlier stop.0 last.0) last.1 _ (λ x. Ends earlier c x.0) (λ there.
    free (at_most_at totals.steps last.1) _ (λ x. Ends earlier c x.0) (λ steps.
    free (counts_at (length earlier) totals.uses totals.output steps.1) _ (λ x. Ends earlier c x.0) (λ counts.
    record { covers = refl; stop = leb-true stop.0 11 (unless_true (nat_le stop.0 11) rule.Range few); last = last_there earlier stop.0 last.0 there }))))))

-- ---- frames

-- what has come behind so many events
abbrev StageStands : Ranges → ℕ → Stage → Type 0
StageStands r count stages.Open = Unit {0}
StageStands r count (stages.Covered c) = Covers r.statements c
StageStands r count (stages.Ended t) = EndStands r.statements count t
StageStands r count (stages.Sealed t seal) = EndStands r.statements count t

abbrev Standing : Ranges → Progress → Type 0
Standing r s = StageStands r (length s.placed) s.stage

read_has : {A : Type 0} (f : A → Progress) (x : Result A DamageRule) (P : A → Type 0) (Q : Progress → Type 0) → IfOk x P → ((y : A) → P y → Q (f y)) → IfOk (read_as f x) Q
read_has f (Ok y) P Q h k = k y h
read_has f (Err d) P Q h k = tt

read_any : {A : Type 0} (f : A → Progress) (x : Result A DamageRule) (Q : Progress → Type 0) → ((y : A) → Q (f y)) → IfOk (read_as f x) Q
read_any f (Ok y) Q k = k y
read_any f (Err d) Q k = tt

either : (r : Ranges) (b : Bool) (x y : Next) → IfOk x (Standing r) → IfOk y (Standing r) → IfOk (cond b x y) (Standing r)
either r true x y h k = h
either r false x y h k = k

event_stands : (r : Ranges) (s : Progress) (whole payload : List ℕ) → IfOk (event_next r s whole payload) (Standing r)
unfolding event_next with_event
event_stands r s whole payload = read_any (with_event s whole) (all_of (event_at r (knowns s) s.output payload)) (Standing r) (λ w. tt)

coverage_stands : (r : Ranges) (s : Progress) (whole payload : List ℕ) → IfOk (coverage_next r s whole payload) (Standing r)
unfolding coverage_next with_stage
coverage_stands r s whole payload = read_has (λ c. with_stage s whole (stages.Covered c)) (all_of (coverage_at r.statements (knowns s) payload)) (Covers r.statements) (Standing r) (all_has (coverage_at r.statements (knowns s) payload) (Covers r.statements) (covers_are r.statements (knowns s) payload)) (λ c is. is)

end_stands : (r : Ranges) (steps : ℕ) (s : Progress) (c : Coverage) (whole payload : List ℕ) → Covers r.statements c → IfOk (end_next steps s c whole payload) (Standing r)
unfolding end_next with_stage
end_stands r steps s c whole payload covered =
    let totals : Totals = record { steps = steps; uses = s.uses; output = s.output } in
    read_has (λ t. with_stage s whole (stages.Ended t)) (all_of (tail_at (knowns s) totals c payload)) (Ends (knowns s) c) (Standing r) (all_has (tail_at (knowns s) totals c payload) (Ends (knowns s) c) (end_is (knowns s) totals c payload)) (λ t is.
    record {
      covered = ap (λ (d : Coverage). length d.statements) is.covers ∙ covered;
      stop = is.stop;
      last = λ thrown. omega (arith, is.last thrown, length-map s.placed known_as_placed);
    })

seal_stands : (r : Ranges) (s : Progress) (t : Tail) (whole payload : List ℕ) → EndStands r.statements (length s.placed) t → IfOk (seal_next s t whole payload) (Standing r)
unfolding seal_next with_stage
seal_stands r s t whole payload is = either r (eqb (length payload) seal_length) _ (Err (Violates rule.Length)) (either r (bytes_eq payload (sha256 s.before)) (Ok (with_stage s whole (stages.Sealed t (sha256 s.before)))) (Err Unsealed) is tt) tt

stage_stands : (r : Ranges) (steps : ℕ) (s : Progress) (stage : Stage) (f : Frame) → StageStands r (length s.placed) stage → IfOk (next_at r steps s stage f) (Standing r)
unfolding next_at open_next covered_next ended_next
stage_stands r steps s stages.Open f is = either r (eqb f.letter 69) _ _ (event_stands r s f.whole f.payload) (either r (eqb f.letter 67) _ (Err (Violates rule.FrameKind)) (coverage_stands r s f.whole f.payload) tt)
stage_stands r steps s (stages.Covered c) f is = either r (eqb f.letter 84) _ (Err (Violates rule.FrameKind)) (end_stands r steps s c f.whole f.payload is) tt
stage_stands r steps s (stages.Ended t) f is = either r (eqb f.letter 83) _ (Err (Violates rule.FrameKind)) (seal_stands r s t f.whole f.payload is) tt
stage_stands r steps s (stages.Sealed t seal) f is = tt

turn_stands : (r : Ranges) (steps : ℕ) (s t : Progress) (rest others : List ℕ) → Standing r s → turn r steps s rest ≡ Goes t others → Standing r t
turn_stands r steps s t rest others stands e = by (frame_of rest) (sym (turn_is r steps s rest) ∙ e) where
  by : (o : Option Frame) → turn_frame (next_of r steps s) s rest o ≡ Goes t others → Standing r t
  by Absent is = absurd (no_frame (length s.before) (is_passed s.stage rest) t others is)
  by (Some f) is = IfOk-at_ok (Standing r) (next_goes s f.rest (next_of r steps s f) t others is).0 (stage_stands r steps s s.stage f stands)

begun : (r : Ranges) (v : Version) (head : Head) → Standing r (start v head)
unfolding start
begun r v head = tt

all_stand : (r : Ranges) (steps : ℕ) (v : Version) (head : Head) (fed : List ℕ) (t : Progress) (rest : List ℕ) → Leaves r steps (start v head) fed t rest → Standing r t
all_stand r steps v head fed _ _ nothing = begun r v head
all_stand r steps v head fed _ _ (frame s rest t others before e) = turn_stands r steps s t rest others (all_stand r steps v head fed s rest before) e

statements_are : (v : Version) (p : Program) → (ranges_of v p).statements ≡ p.statements
unfolding ranges_of
statements_are v p = refl

pub ends_stand : ReadEndsStand
ends_stand v p head fed t rest tail seal leaves sealed =
    let stands : StageStands (ranges_of v p) (length t.placed) (stages.Sealed tail seal) = subst (StageStands (ranges_of v p) (length t.placed)) sealed (all_stand (ranges_of v p) head.steps v head fed t rest leaves) in
    subst (λ (n : ℕ). EndStands n (length t.placed) tail) (statements_are v p) stands
