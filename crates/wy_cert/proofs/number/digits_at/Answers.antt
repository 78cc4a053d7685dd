use Rattle.std.proofs.Common.{◌+◌, sym, ap, ◌∙◌}
use Rattle.wy_cert.proofs.Numbers.{digits_more}
use Rattle.wy_cert.proofs.number.digits_at.Goals as goal

pub loop-byte-preserved : goal.loop-byte-preserved
loop-byte-preserved c = record {
  count = ap (λ n. n + 1) c.loop-byte.invariant.count;
  digits = digits_more c.args.bytes.now c.loop-byte.byte-index c.loop-byte.invariant.digits c.loop-byte-test.true (sym c.is_ascii_digit.ensures.value ∙ c.if-not-is_ascii_digit.false);
}
