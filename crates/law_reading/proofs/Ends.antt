-- A head, a coverage and the end of a run are read.
use Rattle.std.proofs.Common.{◌≡◌, ℕ, ◌<◌, ◌≤◌, ◌^◌, Bool, true, false, cond, eqb, ltb, ◌&&◌, ◌||◌, List, [], ◌∷◌, ◌++◌, length, take, drop, Ok, Err, refl, sym, ap, ◌∙◌, append-nil, arith, length-append}
use Rattle.std.specs.Prelude.{None as Absent}
use Rattle.std.specs.Prelude.{nat_le}
use Rattle.std.specs.List.{flat_map}
use Rattle.std.specs.Int.{w8, w32}
use Rattle.std.proofs.lemmas.Bool.{and_from, eqb-true, leb-true, le-leb, le-ltb, ltb-true, ltb-false, eq-eqb}
use Rattle.std.proofs.lemmas.Option.{slice_get_past}
use Rattle.std.proofs.lemmas.List.{take_at, drop_at}
use Rattle.std.proofs.lemmas.List.Elements.{recursion_from_All}
use Rattle.wy_kernel.specs.View.{NONE}
use Rattle.wy_event.specs.declared.record.Cover.{Cover}
use Rattle.wy_event.specs.declared.record.Coverage.{Coverage}
use Rattle.wy_event.specs.declared.record.Head.{Head}
use Rattle.wy_event.specs.declared.record.Tail.{Tail}
use Rattle.wy_spelling.specs.Spelling.{number, head_payload, cover_bytes, coverage_payload, count_bytes, tail_payload}
use Rattle.wy_spelling.proofs.Lengths.{covers_are_few}
use Rattle.wy_payload.specs.declared.fault.DamageRule.TheVariants as rule
use Rattle.wy_payload.specs.declared.known.Known.{Known}
use Rattle.wy_payload.specs.declared.known.Role.{Role}
use Rattle.wy_payload.specs.declared.known.Role.TheVariants as role
use Rattle.wy_payload.specs.declared.closing.Totals.{Totals}
use Rattle.wy_payload.specs.Rules.{unless, in_range, refers_to, reference_rule}
use Rattle.wy_payload.specs.Reading.{◌>>=◌, Read, passed, number_at, at_most_at, block_at, rows_from, all_of}
use Rattle.wy_kernel.specs.Limits.{steps_limit, input_limit, source_limit, event_limit}
use Rattle.wy_payload.specs.Closing.{head_at, first_rule, going_on, cause_rule, cover_at, count_rule, coverage_at, is_thrown, last_rule, counts_at, tail_at}
use Rattle.law_reading.specs.Readable.{Refers, HeadMayStand, CoverMayStand, EndMayStand}
use Rattle.law_reading.proofs.ReadableSteps.{Reads, then_is, passes, ranged, byte_is, number_is, rows_are}
use Rattle.law_reading.proofs.Parts.{at_most_is}

-- ---- heads

block_is : (limit : ℕ) (block rest : List ℕ) → length block < 2 ^ 32 → length block ≤ limit → Reads (block_at limit (number (length block) ++ (block ++ rest))) block rest
unfolding block_at
block_is limit block rest small within =
    let n = length block in
    let long : n ≤ length (block ++ rest) = omega (arith, length-append block rest) in
    then_is (at_most_at limit (number n ++ (block ++ rest))) _ (n, block ++ rest) _ (at_most_is limit n (block ++ rest) small within)
    (ap (λ b. cond b (Err rule.Length) (Ok (take n (block ++ rest), drop n (block ++ rest)))) (le-ltb (length (block ++ rest)) n long)
    ∙ ap (λ l. Ok (l, drop n (block ++ rest))) (take_at block rest n refl)
    ∙ ap (λ l. Ok (block, l)) (drop_at block rest n refl))

head_parts : (head : Head) → head_payload head ≡ number head.steps ++ (number (length head.input) ++ (head.input ++ (number (length head.source) ++ (head.source ++ []))))
unfolding head_payload
head_parts head = rw (append-nil head.source) refl

head_is : (head : Head) → HeadMayStand head → Reads (head_at (head_payload head)) head []
unfolding head_at
head_is head may =
    let b = number (length head.source) ++ (head.source ++ []) in
    let a = number (length head.input) ++ (head.input ++ b) in
    let test = nat_le 1 head.steps && nat_le head.steps steps_limit in
    ap head_at (head_parts head)
    ∙ then_is (number_at w32 (number head.steps ++ a)) _ (head.steps, a) _ (number_is head.steps a (omega (arith, may.steps)))
    (then_is (passed (in_range test) a) _ a _ (passes (in_range test) a (ranged test (and_from (nat_le 1 head.steps) (nat_le head.steps steps_limit) (le-leb 1 head.steps may.some_steps) (le-leb head.steps steps_limit may.steps))))
    (then_is (block_at input_limit a) _ (head.input, b) _ (block_is input_limit head.input b (omega (arith, may.input)) may.input)
    (then_is (block_at source_limit b) _ (head.source, []) _ (block_is source_limit head.source [] (omega (arith, may.source)) may.source) refl)))

pub whole_head : (head : Head) → HeadMayStand head → all_of (head_at (head_payload head)) ≡ Ok head
whole_head head may = ap all_of (head_is head may)

-- ---- what keeps a rule is a number of four bytes

kept : (b : Bool) → in_range b ≡ Absent → b ≡ true
kept true e = refl
kept false e = absurd cc

none_refers : (r : Role) → refers_to r Absent ≡ Absent → ⊥
none_refers r e = cc

refers_below : (r : Role) (earlier : List Known) (n : ℕ) → Refers r earlier n → n < length earlier
unfolding reference_rule
refers_below r earlier n refers = by_order (ltb n (length earlier)) refl
  where
    by_order : (b : Bool) → ltb n (length earlier) ≡ b → n < length earlier
    by_order true is = ltb-true n (length earlier) is
    by_order false is = absurd (none_refers r (sym (ap (refers_to r) (slice_get_past earlier n (ltb-false n (length earlier) is))) ∙ refers))

first_small : (begins count n : ℕ) → count ≤ event_limit → first_rule begins count n ≡ Absent → n < 2 ^ 32
first_small begins count n few keeps = by_begins (eqb begins 0) keeps
  where
    by_begins : (b : Bool) → in_range (cond b (eqb n NONE) (nat_le n count)) ≡ Absent → n < 2 ^ 32
    by_begins true e = omega (arith, eqb-true n NONE (kept (eqb n NONE) e))
    by_begins false e = omega (arith, few, leb-true n count (kept (nat_le n count) e))

cause_small : (earlier : List Known) (n : ℕ) → length earlier ≤ event_limit → cause_rule earlier n ≡ Absent → n < 2 ^ 32
unfolding cause_rule
cause_small earlier n few keeps = by_none (eqb n NONE) (eqb n going_on) refl refl keeps
  where
    by_none : (b c : Bool) → eqb n NONE ≡ b → eqb n going_on ≡ c → cond (b || c) Absent (reference_rule role.Leaving earlier n) ≡ Absent → n < 2 ^ 32
    by_none true c is on e = omega (arith, eqb-true n NONE is)
    by_none false true is on e = omega (arith, eqb-true n going_on on)
    by_none false false is on e = omega (arith, few, refers_below role.Leaving earlier n e)

last_small : (earlier : List Known) (stop n : ℕ) → length earlier ≤ event_limit → last_rule earlier stop n ≡ Absent → n < 2 ^ 32
unfolding last_rule
last_small earlier stop n few keeps = by_throw (is_thrown stop) keeps
  where
    by_throw : (b : Bool) → cond b (reference_rule role.Throw earlier n) (in_range (eqb n NONE)) ≡ Absent → n < 2 ^ 32
    by_throw true e = omega (arith, few, refers_below role.Throw earlier n e)
    by_throw false e = omega (arith, eqb-true n NONE (kept (eqb n NONE) e))

-- ---- coverages

cover_parts : (c : Cover) (rest : List ℕ) → cover_bytes c ++ rest ≡ number c.begins ++ (number c.ends ++ (number c.first ++ (number c.cause ++ rest)))
unfolding cover_bytes
cover_parts c rest = refl

cover_is : (earlier : List Known) → length earlier ≤ event_limit → (c : Cover) (rest : List ℕ) → CoverMayStand earlier c → Reads (cover_at earlier (cover_bytes c ++ rest)) c rest
unfolding cover_at
cover_is earlier few c rest may =
    let z = number c.cause ++ rest in
    let y = number c.first ++ z in
    let x = number c.ends ++ y in
    ap (cover_at earlier) (cover_parts c rest)
    ∙ then_is (number_at w32 (number c.begins ++ x)) _ (c.begins, x) _ (number_is c.begins x may.begins)
    (then_is (at_most_at c.begins x) _ (c.ends, y) _ (at_most_is c.begins c.ends y (omega (arith, may.begins, may.ends)) may.ends)
    (then_is (number_at w32 y) _ (c.first, z) _ (number_is c.first z (first_small c.begins (length earlier) c.first few may.first))
    (then_is (passed (first_rule c.begins (length earlier) c.first) z) _ z _ (passes (first_rule c.begins (length earlier) c.first) z may.first)
    (then_is (number_at w32 z) _ (c.cause, rest) _ (number_is c.cause rest (cause_small earlier c.cause few may.cause))
    (then_is (passed (cause_rule earlier c.cause) rest) _ rest _ (passes (cause_rule earlier c.cause) rest may.cause) refl)))))

counted : (wanted n : ℕ) → n ≡ wanted → count_rule wanted n ≡ Absent
counted wanted n same = ap (λ b. unless b rule.Count) (eq-eqb n wanted same)

coverage_parts : (c : Coverage) → coverage_payload c ≡ number (length c.statements) ++ (flat_map cover_bytes c.statements ++ [])
unfolding coverage_payload
coverage_parts c = rw (append-nil (flat_map cover_bytes c.statements)) refl

coverage_is : (statements steps : ℕ) (earlier : List Known) (end : Tail) → length earlier ≤ event_limit → EndMayStand statements steps earlier end → length (coverage_payload end.coverage) < 2 ^ 32
    → Reads (coverage_at statements earlier (coverage_payload end.coverage)) end.coverage []
unfolding coverage_at
coverage_is statements steps earlier end few may short =
    let c = end.coverage in
    let n = length c.statements in
    let rows = flat_map cover_bytes c.statements ++ [] in
    ap (coverage_at statements earlier) (coverage_parts c)
    ∙ then_is (number_at w32 (number n ++ rows)) _ (n, rows) _ (number_is n rows (covers_are_few c short))
    (then_is (passed (count_rule statements n) rows) _ rows _ (passes (count_rule statements n) rows (counted statements n may.each_covered))
    (then_is (rows_from (cover_at earlier) n rows) _ (c.statements, []) _ (rows_are (cover_at earlier) cover_bytes (CoverMayStand earlier) (cover_is earlier few) c.statements [] (recursion_from_All (CoverMayStand earlier) c.statements may.covers)) refl))

pub whole_coverage : (statements steps : ℕ) (earlier : List Known) (end : Tail) → length earlier ≤ event_limit → EndMayStand statements steps earlier end → length (coverage_payload end.coverage) < 2 ^ 32
    → all_of (coverage_at statements earlier (coverage_payload end.coverage)) ≡ Ok end.coverage
whole_coverage statements steps earlier end few may short = ap all_of (coverage_is statements steps earlier end few may short)

-- ---- the end

-- an end counts what stands before it
pub record Counts (earlier : List Known) (totals : Totals) (end : Tail) : Type 0 where
  pub events : end.events ≡ length earlier
  pub uses : end.uses ≡ totals.uses
  pub output : end.output ≡ totals.output
  pub small_events : end.events < 2 ^ 32
  pub small_uses : end.uses < 2 ^ 32
  pub small_output : end.output < 2 ^ 32

counts_are : (events uses output a b c : ℕ) (rest : List ℕ) → a ≡ events → b ≡ uses → c ≡ output → a < 2 ^ 32 → b < 2 ^ 32 → c < 2 ^ 32 → Reads (counts_at events uses output (number a ++ (number b ++ (number c ++ rest)))) c rest
unfolding counts_at
counts_are events uses output a b c rest a-is b-is c-is a-small b-small c-small =
    let z = number c ++ rest in
    let y = number b ++ z in
    then_is (number_at w32 (number a ++ y)) _ (a, y) _ (number_is a y a-small)
    (then_is (passed (count_rule events a) y) _ y _ (passes (count_rule events a) y (counted events a a-is))
    (then_is (number_at w32 y) _ (b, z) _ (number_is b z b-small)
    (then_is (passed (count_rule uses b) z) _ z _ (passes (count_rule uses b) z (counted uses b b-is))
    (then_is (number_at w32 z) _ (c, rest) _ (number_is c rest c-small)
    (passes (count_rule output c) (c, rest) (counted output c c-is))))))

tail_parts : (end : Tail) → tail_payload end ≡ end.stop ∷ number end.last ++ (number end.steps ++ (number end.events ++ (number end.uses ++ (number end.output ++ []))))
unfolding tail_payload count_bytes
tail_parts end = rw (append-nil (number end.output)) refl

-- as it is read
abbrev end_read : List Known → Totals → Tail → Tail
end_read earlier totals end = record { coverage = end.coverage; stop = end.stop; last = end.last; steps = end.steps; events = length earlier; uses = totals.uses; output = totals.output }

same_end : (earlier : List Known) (totals : Totals) (end : Tail) → Counts earlier totals end → end_read earlier totals end ≡ end
same_end earlier totals end counts =
    let events = sym counts.events in
    let uses = sym counts.uses in
    let output = sym counts.output in
    λ i. record { coverage = end.coverage; stop = end.stop; last = end.last; steps = end.steps; events = events i; uses = uses i; output = output i }

-- what is read behind the stop
abbrev behind_stop : List Known → Totals → Coverage → ℕ × List ℕ → Read Tail
behind_stop earlier totals coverage stop =
    passed (in_range (nat_le stop.0 11)) stop.1 >>= λ after_stop.
    number_at w32 after_stop >>= λ last.
    passed (last_rule earlier stop.0 last.0) last.1 >>= λ after_last.
    at_most_at totals.steps after_last >>= λ steps.
    counts_at (length earlier) totals.uses totals.output steps.1 >>= λ counts.
    Ok (record { coverage = coverage; stop = stop.0; last = last.0; steps = steps.0; events = length earlier; uses = totals.uses; output = totals.output }, counts.1)

stop_is : (statements : ℕ) (earlier : List Known) (totals : Totals) (end : Tail) (c : List ℕ) → length earlier ≤ event_limit → totals.steps ≤ steps_limit → EndMayStand statements totals.steps earlier end
    → Reads (counts_at (length earlier) totals.uses totals.output c) end.output [] → Reads (behind_stop earlier totals end.coverage (end.stop, number end.last ++ (number end.steps ++ c))) (end_read earlier totals end) []
stop_is statements earlier totals end c few little may counts =
    let b = number end.steps ++ c in
    let a = number end.last ++ b in
    then_is (passed (in_range (nat_le end.stop 11)) a) _ a _ (passes (in_range (nat_le end.stop 11)) a (ranged (nat_le end.stop 11) (le-leb end.stop 11 may.stop)))
    (then_is (number_at w32 a) _ (end.last, b) _ (number_is end.last b (last_small earlier end.stop end.last few may.last))
    (then_is (passed (last_rule earlier end.stop end.last) b) _ b _ (passes (last_rule earlier end.stop end.last) b may.last)
    (then_is (at_most_at totals.steps b) _ (end.steps, c) _ (at_most_is totals.steps end.steps c (omega (arith, may.steps, little)) may.steps)
    (then_is (counts_at (length earlier) totals.uses totals.output c) _ (end.output, []) _ counts refl))))

end_is : (statements : ℕ) (earlier : List Known) (totals : Totals) (end : Tail) → length earlier ≤ event_limit → totals.steps ≤ steps_limit → EndMayStand statements totals.steps earlier end → Counts earlier totals end
    → Reads (tail_at earlier totals end.coverage (tail_payload end)) (end_read earlier totals end) []
unfolding tail_at
end_is statements earlier totals end few little may counts =
    let c = number end.events ++ (number end.uses ++ (number end.output ++ [])) in
    let a = number end.last ++ (number end.steps ++ c) in
    let read = counts_are (length earlier) totals.uses totals.output end.events end.uses end.output [] counts.events counts.uses counts.output counts.small_events counts.small_uses counts.small_output in
    ap (tail_at earlier totals end.coverage) (tail_parts end)
    ∙ then_is (number_at w8 (end.stop ∷ a)) (behind_stop earlier totals end.coverage) (end.stop, a) (end_read earlier totals end, []) (byte_is end.stop a)
    (stop_is statements earlier totals end c few little may read)

pub whole_end : (statements : ℕ) (earlier : List Known) (totals : Totals) (end : Tail) → length earlier ≤ event_limit → totals.steps ≤ steps_limit → EndMayStand statements totals.steps earlier end → Counts earlier totals end
    → all_of (tail_at earlier totals end.coverage (tail_payload end)) ≡ Ok end
whole_end statements earlier totals end few little may counts = ap all_of (end_is statements earlier totals end few little may counts) ∙ ap Ok (same_end earlier totals end counts)
