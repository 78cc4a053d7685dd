use Rattle.std.proofs.Common.{◌≡◌, ◌+◌, ◌-◌, ◌*◌, get_or, arith, rules, sym, subst}
use Rattle.wy_value.proofs.Numerals.{Spells, spells_more, too_big}
use Rattle.wy_value.proofs.numeral.magnitude.Goals as goal

pub returns-then-more-from : goal.returns-then-more-from
returns-then-more-from c =
    let more = spells_more c.args.digits.now c.loop-digit.digit-index c.loop-digit.value c.loop-digit.invariant.0 c.loop-digit-test.true (search rules) (search rules) in
    sym (too_big _ _ _ more (omega arith))

pub loop-digit-preserved : goal.loop-digit-preserved
loop-digit-preserved c =
    let i = c.loop-digit.digit-index in
    let us = c.args.digits.now in
    let more = spells_more us i c.loop-digit.value c.loop-digit.invariant.0 c.loop-digit-test.true (search rules) (search rules) in
    let is : c.loop-digit.value * 10 + (get_or us i 0 - 48) ≡ c.from.result * 10 + c.from-in-loop-digit.result = omega arith in
    (subst (Spells us (i + 1)) is more, omega arith)
