use Rattle.std.proofs.Common.{arith}
use Rattle.wy_compare.proofs.Walking.{never_parts, one_more, parts_at_end, parts_here}
use Rattle.wy_compare.proofs.parting.first_part.Goals as goal

pub loop-n-init : goal.loop-n-init
loop-n-init c = λ k lt. absurd (omega (arith, lt))

pub loop-n-preserved : goal.loop-n-preserved
loop-n-preserved c =
    one_more c.args.look c.args.good.now c.args.bad.now c.loop-n.n c.index-good-n.result c.index-bad-n.result c.is_same.result (omega (arith, c.loop-n-test.true, c.min-shared.ensures)) (omega (arith, c.loop-n-test.true, c.min-shared.ensures))
    c.index-good-n.is c.index-bad-n.is c.is_same.ensures c.if-not-is_same.false c.loop-n.invariant

pub returns-then-not-is_same : goal.returns-then-not-is_same
returns-then-not-is_same c =
    parts_here c.args.look c.args.good.now c.args.bad.now c.loop-n.n c.index-good-n.result c.index-bad-n.result c.is_same.result (omega (arith, c.loop-n-test.true, c.min-shared.ensures)) (omega (arith, c.loop-n-test.true, c.min-shared.ensures))
    c.index-good-n.is c.index-bad-n.is c.is_same.ensures (λ same. cc) c.loop-n.invariant

pub returns-then-good-bad : goal.returns-then-good-bad
returns-then-good-bad c =
    never_parts c.args.look c.args.good.now c.args.bad.now c.loop-n.n (omega (arith, c.if-good-bad.true, c.loop-n-test.false, c.min-shared.ensures)) (omega (arith, c.if-good-bad.true, c.loop-n-test.false, c.min-shared.ensures)) c.loop-n.invariant

pub returns-else-good-bad : goal.returns-else-good-bad
returns-else-good-bad c =
    parts_at_end c.args.look c.args.good.now c.args.bad.now c.min-shared.result c.min-shared.ensures c.if-good-bad.false (λ k lt. c.loop-n.invariant k (omega (arith, lt, c.loop-n-test.false)))
