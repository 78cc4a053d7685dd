use Rattle.std.proofs.Common.{◌+◌, ◌*◌, sym, ap₂, ◌∙◌, arith}
use Rattle.wy_cert.proofs.Numbers.{digit_range, value_few, value_more}
use Rattle.wy_cert.proofs.number.value_of.Goals as goal

pub overflow_mul-value : goal.overflow_mul-value
overflow_mul-value c = omega (arith, value_few c.args.digits.now c.loop-digit.digit-index c.requires.digits c.loop-digit-test.true c.requires.few, c.loop-digit.invariant)

pub overflow_sub-digit : goal.overflow_sub-digit
overflow_sub-digit c = (digit_range c.args.digits.now c.loop-digit.digit-index c.requires.digits c.loop-digit-test.true).0

pub overflow_add-value : goal.overflow_add-value
overflow_add-value c =
    let range = digit_range c.args.digits.now c.loop-digit.digit-index c.requires.digits c.loop-digit-test.true in
    omega (arith, value_few c.args.digits.now c.loop-digit.digit-index c.requires.digits c.loop-digit-test.true c.requires.few, c.loop-digit.invariant, c.from.ensures, range.0, range.1)

pub loop-digit-preserved : goal.loop-digit-preserved
loop-digit-preserved c = ap₂ (λ a b. a * 10 + b) c.loop-digit.invariant c.from.ensures ∙ sym (value_more c.args.digits.now c.loop-digit.digit-index c.requires.digits c.loop-digit-test.true)
