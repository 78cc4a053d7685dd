-- A coverage and an end that are read keep the rules, and count what came before them.
use Rattle.std.proofs.Common.{◌≡◌, ℕ, ◌≤◌, Bool, true, false, eqb, List, length, All, refl, ◌∙◌}
use Rattle.std.specs.Prelude.{None as Absent}
use Rattle.std.specs.Prelude.{nat_le}
use Rattle.std.specs.Int.{w8, w32}
use Rattle.std.proofs.lemmas.Bool.{eqb-true, leb-true}
use Rattle.wy_event.specs.declared.record.Cover.{Cover}
use Rattle.wy_event.specs.declared.record.Coverage.{Coverage}
use Rattle.wy_event.specs.declared.record.Tail.{Tail}
use Rattle.wy_payload.specs.declared.fault.DamageRule.{DamageRule}
use Rattle.wy_payload.specs.declared.closing.Totals.{Totals}
use Rattle.wy_payload.specs.declared.known.Known.{Known}
use Rattle.wy_payload.specs.Rules.{in_range, unless}
use Rattle.wy_payload.specs.Reading.{at_most_at, number_at, passed, rows_from}
use Rattle.wy_payload.specs.Closing.{cause_rule, count_rule, counts_at, cover_at, coverage_at, first_rule, last_rule, tail_at}
use Rattle.wy_payload.proofs.Readers.{then_has}
use Rattle.law_reading.proofs.ReferringNumbers.{Has, after, at_most_has, in_range_is, passed_has}
use Rattle.law_migrated.proofs.Fields.{rows_have}

-- ---- coverage

pub record CoverStands (earlier : List Known) (c : Cover) : Type 0 where
  pub ends : c.ends ≤ c.begins
  pub first : first_rule c.begins (length earlier) c.first ≡ Absent
  pub cause : cause_rule earlier c.cause ≡ Absent

cover_has : (earlier : List Known) (bytes : List ℕ) → Has (CoverStands earlier) (cover_at earlier bytes)
unfolding cover_at
cover_has earlier bytes =
    after (number_at w32 bytes) _ _ (λ begins.
    then_has (at_most_at begins.0 begins.1) _ _ _ (at_most_has begins.0 begins.1) (λ ends up.
    after (number_at w32 ends.1) _ _ (λ first.
    then_has (passed (first_rule begins.0 (length earlier) first.0) first.1) _ (λ _. first_rule begins.0 (length earlier) first.0 ≡ Absent) _ (passed_has (first_rule begins.0 (length earlier) first.0) first.1 (λ _. first_rule begins.0 (length earlier) first.0 ≡ Absent) (λ ok. ok)) (λ rest began.
    after (number_at w32 rest) _ _ (λ cause.
    then_has (passed (cause_rule earlier cause.0) cause.1) _ (λ _. cause_rule earlier cause.0 ≡ Absent) _ (passed_has (cause_rule earlier cause.0) cause.1 (λ _. cause_rule earlier cause.0 ≡ Absent) (λ ok. ok)) (λ last left.
    record { ends = up; first = began; cause = left }))))))

pub record CoverageStands (statements : ℕ) (earlier : List Known) (c : Coverage) : Type 0 where
  pub each : length c.statements ≡ statements
  pub covers : All (CoverStands earlier) c.statements

holds : (b : Bool) (d : DamageRule) → unless b d ≡ Absent → b ≡ true
holds true d is = refl
holds false d is = absurd cc

counted : (wanted n : ℕ) → count_rule wanted n ≡ Absent → n ≡ wanted
counted wanted n ok = eqb-true n wanted (holds (eqb n wanted) _ ok)

pub coverage_has : (statements : ℕ) (earlier : List Known) (bytes : List ℕ) → Has (CoverageStands statements earlier) (coverage_at statements earlier bytes)
unfolding coverage_at
coverage_has statements earlier bytes =
    after (number_at w32 bytes) _ _ (λ count.
    then_has (passed (count_rule statements count.0) count.1) _ (λ _. count.0 ≡ statements) _ (passed_has (count_rule statements count.0) count.1 (λ _. count.0 ≡ statements) (λ ok. counted statements count.0 ok)) (λ rest many.
    then_has (rows_from (cover_at earlier) count.0 rest) _ _ _ (rows_have (CoverStands earlier) (cover_at earlier) (cover_has earlier) count.0 rest) (λ covers have.
    record { each = have.0 ∙ many; covers = have.1 })))

-- ---- end

pub record TailStands (earlier : List Known) (totals : Totals) (c : Coverage) (t : Tail) : Type 0 where
  pub coverage : t.coverage ≡ c
  pub stop : t.stop ≤ 11
  pub last : last_rule earlier t.stop t.last ≡ Absent
  pub steps : t.steps ≤ totals.steps
  pub events : t.events ≡ length earlier
  pub uses : t.uses ≡ totals.uses
  pub output : t.output ≡ totals.output

pub tail_has : (earlier : List Known) (totals : Totals) (c : Coverage) (bytes : List ℕ) → Has (TailStands earlier totals c) (tail_at earlier totals c bytes)
unfolding tail_at
tail_has earlier totals c bytes =
    after (number_at w8 bytes) _ _ (λ stop.
    then_has (passed (in_range (nat_le stop.0 11)) stop.1) _ (λ _. stop.0 ≤ 11) _ (passed_has (in_range (nat_le stop.0 11)) stop.1 (λ _. stop.0 ≤ 11) (λ ok. leb-true stop.0 11 (in_range_is (nat_le stop.0 11) ok))) (λ after_stop few.
    after (number_at w32 after_stop) _ _ (λ last.
    then_has (passed (last_rule earlier stop.0 last.0) last.1) _ (λ _. last_rule earlier stop.0 last.0 ≡ Absent) _ (passed_has (last_rule earlier stop.0 last.0) last.1 (λ _. last_rule earlier stop.0 last.0 ≡ Absent) (λ ok. ok)) (λ after_last thrown.
    then_has (at_most_at totals.steps after_last) _ _ _ (at_most_has totals.steps after_last) (λ steps up.
    after (counts_at (length earlier) totals.uses totals.output steps.1) _ _ (λ counts.
    record { coverage = refl; stop = few; last = thrown; steps = up; events = refl; uses = refl; output = refl }))))))
