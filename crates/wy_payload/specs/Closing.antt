-- The head of a trace, its coverage and how its run ended.
use Rattle.std.specs.Prelude.{ℕ, Bool, nat_le, ◌==◌, ◌||◌, ◌&&◌, if◌then◌else◌, List, length, Ok}
use Rattle.std.specs.Prelude.{None as Absent}
use Rattle.std.specs.Int.{w8, w32}
use Rattle.wy_event.specs.declared.record.Cover.{Cover}
use Rattle.wy_event.specs.declared.record.Coverage.{Coverage}
use Rattle.wy_event.specs.declared.record.Head.{Head}
use Rattle.wy_event.specs.declared.record.Tail.{Tail}
use Rattle.wy_kernel.specs.View.{NONE}
use Rattle.wy_kernel.specs.Limits.{steps_limit, input_limit, source_limit}
use Rattle.wy_payload.specs.declared.fault.DamageRule.TheVariants as rule
use Rattle.wy_payload.specs.declared.known.Known.{Known}
use Rattle.wy_payload.specs.declared.known.Role.TheVariants as role
use Rattle.wy_payload.specs.declared.closing.Totals.{Totals}
use Rattle.wy_payload.specs.Rules.{Broken, unless, in_range, reference_rule}
use Rattle.wy_payload.specs.Reading.{◌>>=◌, Read, passed, number_at, at_most_at, block_at, rows_from}

-- ---- head

unfoldable pub head_at : List ℕ → Read Head
head_at bytes = do
  steps ← number_at w32 bytes
  rest ← passed (in_range (nat_le 1 steps.0 && nat_le steps.0 steps_limit)) steps.1
  input ← block_at input_limit rest
  source ← block_at source_limit input.1
  Ok (record { steps = steps.0; input = input.0; source = source.0 }, source.1)

-- ---- coverage

-- the moment of the first begin, and absent exactly where there was none
abbrev pub first_rule : ℕ → ℕ → ℕ → Broken
first_rule begins count n = in_range (if begins == 0 then n == NONE else nat_le n count)

-- of a statement that was still going on when the run stopped
abbrev pub going_on : ℕ
going_on = 4294967294

-- the event that last left a statement, unless it was never left or was still going on
unfoldable pub cause_rule : List Known → ℕ → Broken
cause_rule earlier n = if n == NONE || n == going_on then Absent else reference_rule role.Leaving earlier n

unfoldable pub cover_at : List Known → List ℕ → Read Cover
cover_at earlier bytes = do
  begins ← number_at w32 bytes
  ends ← at_most_at begins.0 begins.1
  first ← number_at w32 ends.1
  rest ← passed (first_rule begins.0 (length earlier) first.0) first.1
  cause ← number_at w32 rest
  last ← passed (cause_rule earlier cause.0) cause.1
  Ok (record { begins = begins.0; ends = ends.0; first = first.0; cause = cause.0 }, last)

abbrev pub count_rule : ℕ → ℕ → Broken
count_rule wanted n = unless (n == wanted) rule.Count

-- a cover for each of so many statements
unfoldable pub coverage_at : ℕ → List Known → List ℕ → Read Coverage
coverage_at statements earlier bytes = do
  count ← number_at w32 bytes
  rest ← passed (count_rule statements count.0) count.1
  covers ← rows_from (cover_at earlier) count.0 rest
  Ok (record { statements = covers.0 }, covers.1)

-- ---- the end

-- a run ended by a Throw, here or in an initializer
abbrev pub is_thrown : ℕ → Bool
is_thrown stop = stop == 1 || stop == 11

unfoldable pub last_rule : List Known → ℕ → ℕ → Broken
last_rule earlier stop n = if is_thrown stop then reference_rule role.Throw earlier n else in_range (n == NONE)

unfoldable pub counts_at : ℕ → ℕ → ℕ → List ℕ → Read ℕ
counts_at events uses output bytes = do
  a ← number_at w32 bytes
  after_a ← passed (count_rule events a.0) a.1
  b ← number_at w32 after_a
  after_b ← passed (count_rule uses b.0) b.1
  c ← number_at w32 after_b
  passed (count_rule output c.0) c

-- behind so many events, uses and bytes of output, of a run with so many steps
unfoldable pub tail_at : List Known → Totals → Coverage → List ℕ → Read Tail
tail_at earlier totals coverage bytes = do
  stop ← number_at w8 bytes
  after_stop ← passed (in_range (nat_le stop.0 11)) stop.1
  last ← number_at w32 after_stop
  after_last ← passed (last_rule earlier stop.0 last.0) last.1
  steps ← at_most_at totals.steps after_last
  counts ← counts_at (length earlier) totals.uses totals.output steps.1
  Ok (record { coverage = coverage; stop = stop.0; last = last.0; steps = steps.0; events = length earlier; uses = totals.uses; output = totals.output }, counts.1)
