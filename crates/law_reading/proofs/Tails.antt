-- A coverage that is read is spelled so.
use Rattle.std.proofs.Common.{◌≡◌, ℕ, zero, suc, Bool, true, false, cond, eqb, ltb, List, [], ◌∷◌, ◌++◌, length, Ok, Err, refl, sym, ap, ◌∙◌, subst}
use Rattle.std.specs.Prelude.{nat_le}
use Rattle.std.specs.List.{flat_map}
use Rattle.std.specs.Int.{w8, w32}
use Rattle.std.proofs.lemmas.Bool.{eqb-true}
use Rattle.std.proofs.lemmas.List.{append-nil, nil_from_length}
use Rattle.wy_event.specs.declared.record.Cover.{Cover}
use Rattle.wy_event.specs.declared.record.Coverage.{Coverage}
use Rattle.wy_event.specs.declared.record.Tail.{Tail}
use Rattle.wy_spelling.specs.Spelling.{number, cover_bytes, coverage_payload, count_bytes, tail_payload}
use Rattle.wy_payload.specs.declared.fault.DamageRule.TheVariants as rule
use Rattle.wy_payload.specs.declared.closing.Totals.{Totals}
use Rattle.wy_payload.specs.declared.known.Known.{Known}
use Rattle.wy_payload.specs.Rules.{in_range, unless}
use Rattle.wy_payload.specs.Reading.{◌>>=◌, Read, passed, number_at, at_most_at, rows_from, all_of}
use Rattle.wy_payload.specs.Closing.{first_rule, cause_rule, cover_at, count_rule, coverage_at, counts_at, last_rule, tail_at}
use Rattle.law_reading.specs.Spelled.{AreBytes}
use Rattle.law_reading.proofs.SpelledNumbers.{bytes_behind, guarded, read_then, passing, Spelled, number_spelled, at_most_spelled, one_after}
use Rattle.law_reading.proofs.Heads.{done, ok_is}

-- a number that is passed on
pub kept_number : (bytes : List ℕ) (x : ℕ × List ℕ) (rest : List ℕ) → x.1 ≡ rest → Spelled bytes (number x.0) x.1 → Spelled bytes (number x.0) rest
kept_number bytes x rest e s = subst (λ (l : List ℕ). Spelled bytes (number x.0) l) e s

pub cover_spelled : (earlier : List Known) (bytes : List ℕ) (x : Cover × List ℕ) → AreBytes bytes → cover_at earlier bytes ≡ Ok x → Spelled bytes (cover_bytes x.0) x.1
unfolding cover_at cover_bytes
cover_spelled earlier bytes x are e =
    let a = read_then (number_at w32 bytes) (λ begins. at_most_at begins.0 begins.1 >>= λ ends. number_at w32 ends.1 >>= λ first. passed (first_rule begins.0 (length earlier) first.0) first.1 >>= λ rest. number_at w32 rest >>= λ cause. passed (cause_rule earlier cause.0) cause.1 >>= λ last. Ok (record { begins = begins.0; ends = ends.0; first = first.0; cause = cause.0 }, last)) x e in
    let b = read_then (at_most_at a.0.0 a.0.1) (λ ends. number_at w32 ends.1 >>= λ first. passed (first_rule a.0.0 (length earlier) first.0) first.1 >>= λ rest. number_at w32 rest >>= λ cause. passed (cause_rule earlier cause.0) cause.1 >>= λ last. Ok (record { begins = a.0.0; ends = ends.0; first = first.0; cause = cause.0 }, last)) x a.2 in
    let c = read_then (number_at w32 b.0.1) (λ first. passed (first_rule a.0.0 (length earlier) first.0) first.1 >>= λ rest. number_at w32 rest >>= λ cause. passed (cause_rule earlier cause.0) cause.1 >>= λ last. Ok (record { begins = a.0.0; ends = b.0.0; first = first.0; cause = cause.0 }, last)) x b.2 in
    let d = read_then (passed (first_rule a.0.0 (length earlier) c.0.0) c.0.1) (λ rest. number_at w32 rest >>= λ cause. passed (cause_rule earlier cause.0) cause.1 >>= λ last. Ok (record { begins = a.0.0; ends = b.0.0; first = c.0.0; cause = cause.0 }, last)) x c.2 in
    let f = read_then (number_at w32 d.0) (λ cause. passed (cause_rule earlier cause.0) cause.1 >>= λ last. Ok (record { begins = a.0.0; ends = b.0.0; first = c.0.0; cause = cause.0 }, last)) x d.2 in
    let g = read_then (passed (cause_rule earlier f.0.0) f.0.1) (λ last. Ok (record { begins = a.0.0; ends = b.0.0; first = c.0.0; cause = f.0.0 }, last)) x f.2 in
    let s0 = number_spelled bytes a.0 are a.1 in
    let s1 = at_most_spelled a.0.0 a.0.1 b.0 s0.rest_bytes b.1 in
    let s2 = kept_number b.0.1 c.0 d.0 (passing (first_rule a.0.0 (length earlier) c.0.0) c.0.1 d.0 d.1) (number_spelled b.0.1 c.0 s1.rest_bytes c.1) in
    let s3 = kept_number d.0 f.0 g.0 (passing (cause_rule earlier f.0.0) f.0.1 g.0 g.1) (number_spelled d.0 f.0 s2.rest_bytes f.1) in
    let two = one_after b.0.1 (number c.0.0) d.0 (number f.0.0) g.0 s2 s3 in
    let three = one_after a.0.1 (number b.0.0) b.0.1 (number c.0.0 ++ number f.0.0) g.0 s1 two in
    let four = one_after bytes (number a.0.0) a.0.1 (number b.0.0 ++ (number c.0.0 ++ number f.0.0)) g.0 s0 three in
    let made : Cover × List ℕ = (record { begins = a.0.0; ends = b.0.0; first = c.0.0; cause = f.0.0 }, g.0) in
    subst (λ (y : Cover × List ℕ). Spelled bytes (cover_bytes y.0) y.1) (ok_is made x g.2) four

-- rows that are read are spelled one after another, as many as were wanted
pub rows_spelled : {X : Type 0} (read : List ℕ → Read X) (spell : X → List ℕ) → ((bytes : List ℕ) (x : X × List ℕ) → AreBytes bytes → read bytes ≡ Ok x → Spelled bytes (spell x.0) x.1)
    → (count : ℕ) (bytes : List ℕ) (x : List X × List ℕ) → AreBytes bytes → rows_from read count bytes ≡ Ok x → Spelled bytes (flat_map spell x.0) x.1 × (length x.0 ≡ count)
unfolding rows_from
rows_spelled {X} read spell each zero bytes x are e =
    let made : List X × List ℕ = ([], bytes) in
    subst (λ (y : List X × List ℕ). Spelled bytes (flat_map spell y.0) y.1 × (length y.0 ≡ 0)) (ok_is made x e) (record { parts = refl; rest_bytes = are }, refl)
rows_spelled {X} read spell each (suc count) bytes x are e =
    let a = read_then (read bytes) (λ first. rows_from read count first.1 >>= λ others. Ok (first.0 ∷ others.0, others.1)) x e in
    let b = read_then (rows_from read count a.0.1) (λ others. Ok (a.0.0 ∷ others.0, others.1)) x a.2 in
    let first = each bytes a.0 are a.1 in
    let others = rows_spelled read spell each count a.0.1 b.0 first.rest_bytes b.1 in
    let both = one_after bytes (spell a.0.0) a.0.1 (flat_map spell b.0.0) b.0.1 first others.0 in
    let made : List X × List ℕ = (a.0.0 ∷ b.0.0, b.0.1) in
    subst (λ (y : List X × List ℕ). Spelled bytes (flat_map spell y.0) y.1 × (length y.0 ≡ suc count)) (ok_is made x b.2) (both, ap suc others.1)

pub coverage_spelled : (statements : ℕ) (earlier : List Known) (bytes : List ℕ) (x : Coverage × List ℕ) → AreBytes bytes → coverage_at statements earlier bytes ≡ Ok x → Spelled bytes (coverage_payload x.0) x.1
unfolding coverage_at coverage_payload
coverage_spelled statements earlier bytes x are e =
    let a = read_then (number_at w32 bytes) (λ count. passed (count_rule statements count.0) count.1 >>= λ rest. rows_from (cover_at earlier) count.0 rest >>= λ covers. Ok (record { statements = covers.0 }, covers.1)) x e in
    let b = read_then (passed (count_rule statements a.0.0) a.0.1) (λ rest. rows_from (cover_at earlier) a.0.0 rest >>= λ covers. Ok (record { statements = covers.0 }, covers.1)) x a.2 in
    let c = read_then (rows_from (cover_at earlier) a.0.0 b.0) (λ covers. Ok (record { statements = covers.0 }, covers.1)) x b.2 in
    let s0 = kept_number bytes a.0 b.0 (passing (count_rule statements a.0.0) a.0.1 b.0 b.1) (number_spelled bytes a.0 are a.1) in
    let s1 = rows_spelled (cover_at earlier) cover_bytes (cover_spelled earlier) a.0.0 b.0 c.0 s0.rest_bytes c.1 in
    let both = one_after bytes (number a.0.0) b.0 (flat_map cover_bytes c.0.0) c.0.1 s0 s1.0 in
    let counted = subst (λ (n : ℕ). Spelled bytes (number n ++ flat_map cover_bytes c.0.0) c.0.1) (sym s1.1) both in
    let made : Coverage × List ℕ = (record { statements = c.0.0 }, c.0.1) in
    subst (λ (y : Coverage × List ℕ). Spelled bytes (coverage_payload y.0) y.1) (ok_is made x c.2) counted

-- ---- the end

pub byte_spelled : (bytes : List ℕ) (x : ℕ × List ℕ) → AreBytes bytes → number_at w8 bytes ≡ Ok x → Spelled bytes (x.0 ∷ []) x.1
byte_spelled [] x are e = absurd cc
byte_spelled (b ∷ tail) x are e =
    let made : ℕ × List ℕ = (b, tail) in
    let g = guarded (ltb (length (b ∷ tail)) 1) rule.Length made x e in
    subst (λ (y : ℕ × List ℕ). Spelled (b ∷ tail) (y.0 ∷ []) y.1) g.1 (record { parts = refl; rest_bytes = bytes_behind 1 (b ∷ tail) are })

right_count : (wanted n : ℕ) (x y : List ℕ) → passed (count_rule wanted n) x ≡ Ok y → (n ≡ wanted) × (x ≡ y)
right_count wanted n x y e = counted (eqb n wanted) refl e
  where
    counted : (b : Bool) → eqb n wanted ≡ b → passed (unless b rule.Count) x ≡ Ok y → (n ≡ wanted) × (x ≡ y)
    counted true is ok = (eqb-true n wanted is, ok_is x y ok)
    counted false is ok = absurd cc

last_count : (wanted : ℕ) (n y : ℕ × List ℕ) → passed (count_rule wanted n.0) n ≡ Ok y → (n.0 ≡ wanted) × (n ≡ y)
last_count wanted n y e = counted (eqb n.0 wanted) refl e
  where
    counted : (b : Bool) → eqb n.0 wanted ≡ b → passed (unless b rule.Count) n ≡ Ok y → (n.0 ≡ wanted) × (n ≡ y)
    counted true is ok = (eqb-true n.0 wanted is, ok_is n y ok)
    counted false is ok = absurd cc

counted_number : (wanted : ℕ) (bytes : List ℕ) (n : ℕ × List ℕ) (rest : List ℕ) → n.0 ≡ wanted → n.1 ≡ rest → Spelled bytes (number n.0) n.1 → Spelled bytes (number wanted) rest
counted_number wanted bytes n rest e f s = subst (λ (l : List ℕ). Spelled bytes (number wanted) l) f (subst (λ (k : ℕ). Spelled bytes (number k) n.1) e s)

counts_spelled : (events uses output : ℕ) (bytes : List ℕ) (x : ℕ × List ℕ) → AreBytes bytes → counts_at events uses output bytes ≡ Ok x → Spelled bytes (number events ++ (number uses ++ number output)) x.1
unfolding counts_at
counts_spelled events uses output bytes x are e =
    let a = read_then (number_at w32 bytes) (λ a. passed (count_rule events a.0) a.1 >>= λ after_a. number_at w32 after_a >>= λ b. passed (count_rule uses b.0) b.1 >>= λ after_b. number_at w32 after_b >>= λ c. passed (count_rule output c.0) c) x e in
    let b = read_then (passed (count_rule events a.0.0) a.0.1) (λ after_a. number_at w32 after_a >>= λ b. passed (count_rule uses b.0) b.1 >>= λ after_b. number_at w32 after_b >>= λ c. passed (count_rule output c.0) c) x a.2 in
    let c = read_then (number_at w32 b.0) (λ b. passed (count_rule uses b.0) b.1 >>= λ after_b. number_at w32 after_b >>= λ c. passed (count_rule output c.0) c) x b.2 in
    let d = read_then (passed (count_rule uses c.0.0) c.0.1) (λ after_b. number_at w32 after_b >>= λ c. passed (count_rule output c.0) c) x c.2 in
    let f = read_then (number_at w32 d.0) (λ c. passed (count_rule output c.0) c) x d.2 in
    let first = right_count events a.0.0 a.0.1 b.0 b.1 in
    let second = right_count uses c.0.0 c.0.1 d.0 d.1 in
    let third = last_count output f.0 x f.2 in
    let s0 = counted_number events bytes a.0 b.0 first.0 first.1 (number_spelled bytes a.0 are a.1) in
    let s1 = counted_number uses b.0 c.0 d.0 second.0 second.1 (number_spelled b.0 c.0 s0.rest_bytes c.1) in
    let s2 = counted_number output d.0 f.0 x.1 third.0 (ap (λ (p : ℕ × List ℕ). p.1) third.1) (number_spelled d.0 f.0 s1.rest_bytes f.1) in
    one_after bytes (number events) b.0 (number uses ++ number output) x.1 s0 (one_after b.0 (number uses) d.0 (number output) x.1 s1 s2)

pub tail_spelled : (earlier : List Known) (totals : Totals) (coverage : Coverage) (bytes : List ℕ) (x : Tail × List ℕ) → AreBytes bytes → tail_at earlier totals coverage bytes ≡ Ok x → Spelled bytes (tail_payload x.0) x.1 × (x.0.coverage ≡ coverage)
unfolding tail_at tail_payload count_bytes
tail_spelled earlier totals coverage bytes x are e =
    let a = read_then (number_at w8 bytes) (λ stop. passed (in_range (nat_le stop.0 11)) stop.1 >>= λ after_stop. number_at w32 after_stop >>= λ last. passed (last_rule earlier stop.0 last.0) last.1 >>= λ after_last. at_most_at totals.steps after_last >>= λ steps. counts_at (length earlier) totals.uses totals.output steps.1 >>= λ counts. Ok (record { coverage = coverage; stop = stop.0; last = last.0; steps = steps.0; events = length earlier; uses = totals.uses; output = totals.output }, counts.1)) x e in
    let b = read_then (passed (in_range (nat_le a.0.0 11)) a.0.1) (λ after_stop. number_at w32 after_stop >>= λ last. passed (last_rule earlier a.0.0 last.0) last.1 >>= λ after_last. at_most_at totals.steps after_last >>= λ steps. counts_at (length earlier) totals.uses totals.output steps.1 >>= λ counts. Ok (record { coverage = coverage; stop = a.0.0; last = last.0; steps = steps.0; events = length earlier; uses = totals.uses; output = totals.output }, counts.1)) x a.2 in
    let c = read_then (number_at w32 b.0) (λ last. passed (last_rule earlier a.0.0 last.0) last.1 >>= λ after_last. at_most_at totals.steps after_last >>= λ steps. counts_at (length earlier) totals.uses totals.output steps.1 >>= λ counts. Ok (record { coverage = coverage; stop = a.0.0; last = last.0; steps = steps.0; events = length earlier; uses = totals.uses; output = totals.output }, counts.1)) x b.2 in
    let d = read_then (passed (last_rule earlier a.0.0 c.0.0) c.0.1) (λ after_last. at_most_at totals.steps after_last >>= λ steps. counts_at (length earlier) totals.uses totals.output steps.1 >>= λ counts. Ok (record { coverage = coverage; stop = a.0.0; last = c.0.0; steps = steps.0; events = length earlier; uses = totals.uses; output = totals.output }, counts.1)) x c.2 in
    let f = read_then (at_most_at totals.steps d.0) (λ steps. counts_at (length earlier) totals.uses totals.output steps.1 >>= λ counts. Ok (record { coverage = coverage; stop = a.0.0; last = c.0.0; steps = steps.0; events = length earlier; uses = totals.uses; output = totals.output }, counts.1)) x d.2 in
    let g = read_then (counts_at (length earlier) totals.uses totals.output f.0.1) (λ counts. Ok (record { coverage = coverage; stop = a.0.0; last = c.0.0; steps = f.0.0; events = length earlier; uses = totals.uses; output = totals.output }, counts.1)) x f.2 in
    let stop = subst (λ (l : List ℕ). Spelled bytes (a.0.0 ∷ []) l) (passing (in_range (nat_le a.0.0 11)) a.0.1 b.0 b.1) (byte_spelled bytes a.0 are a.1) in
    let last = kept_number b.0 c.0 d.0 (passing (last_rule earlier a.0.0 c.0.0) c.0.1 d.0 d.1) (number_spelled b.0 c.0 stop.rest_bytes c.1) in
    let steps = at_most_spelled totals.steps d.0 f.0 last.rest_bytes f.1 in
    let counts = counts_spelled (length earlier) totals.uses totals.output f.0.1 g.0 steps.rest_bytes g.1 in
    let behind = one_after d.0 (number f.0.0) f.0.1 (number (length earlier) ++ (number totals.uses ++ number totals.output)) g.0.1 steps counts in
    let more = one_after b.0 (number c.0.0) d.0 (number f.0.0 ++ (number (length earlier) ++ (number totals.uses ++ number totals.output))) g.0.1 last behind in
    let all = one_after bytes (a.0.0 ∷ []) b.0 (number c.0.0 ++ (number f.0.0 ++ (number (length earlier) ++ (number totals.uses ++ number totals.output)))) g.0.1 stop more in
    let made : Tail × List ℕ = (record { coverage = coverage; stop = a.0.0; last = c.0.0; steps = f.0.0; events = length earlier; uses = totals.uses; output = totals.output }, g.0.1) in
    subst (λ (y : Tail × List ℕ). Spelled bytes (tail_payload y.0) y.1 × (y.0.coverage ≡ coverage)) (ok_is made x g.2) (all, refl)

-- ---- whole payloads

pub ends : {A : Type 0} (b : Bool) (x y : A) → cond b (Ok x) (Err rule.Length) ≡ done y → (b ≡ true) × (x ≡ y)
ends true x y e = (refl, ok_is x y e)
ends false x y e = absurd cc

pub whole : {A : Type 0} (spell : A → List ℕ) (payload : List ℕ) (read : Read A) (y : A) → ((x : A × List ℕ) → read ≡ Ok x → Spelled payload (spell x.0) x.1) → all_of read ≡ Ok y → payload ≡ spell y
whole spell payload read y each e =
    let a = read_then read (λ x. cond (eqb (length x.1) 0) (Ok x.0) (Err rule.Length)) y e in
    let s = each a.0 a.1 in
    let g = ends (eqb (length a.0.1) 0) a.0.0 y a.2 in
    s.parts ∙ ap (λ l. spell a.0.0 ++ l) (nil_from_length a.0.1 (eqb-true (length a.0.1) 0 g.0)) ∙ append-nil (spell a.0.0) ∙ ap spell g.1

pub whole_coverage : (statements : ℕ) (earlier : List Known) (payload : List ℕ) (c : Coverage) → AreBytes payload → all_of (coverage_at statements earlier payload) ≡ Ok c → payload ≡ coverage_payload c
whole_coverage statements earlier payload c are e = whole coverage_payload payload (coverage_at statements earlier payload) c (λ x is. coverage_spelled statements earlier payload x are is) e

pub whole_tail : (earlier : List Known) (totals : Totals) (coverage : Coverage) (payload : List ℕ) (t : Tail) → AreBytes payload → all_of (tail_at earlier totals coverage payload) ≡ Ok t → payload ≡ tail_payload t
whole_tail earlier totals coverage payload t are e = whole tail_payload payload (tail_at earlier totals coverage payload) t (λ x is. (tail_spelled earlier totals coverage payload x are is).0) e
