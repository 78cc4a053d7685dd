use Rattle.std.proofs.Common.{arith, refl}
use Rattle.wy_overloads.proofs.Lists.{as_long, below_at, each_below}
use Rattle.wy_overloads.proofs.Related.{not_below, both, untrue}
use Rattle.wy_overloads.proofs.signature.are_below.Goals as goal

pub returns-then-lower-upper : goal.returns-then-lower-upper
returns-then-lower-upper c = not_below (λ s. c.if-lower-upper.true (as_long _ s))

pub returns-then-not-is_below : goal.returns-then-not-is_below
returns-then-not-is_below c = not_below (λ s. untrue _ c.if-not-is_below.true (c.is_below.ensures.1 (below_at _ s c.loop-i.i c.loop-i-test.true)))

pub returns : goal.returns
returns c = both _ refl (each_below _ _ _ c.if-lower-upper.false (λ k lt. c.loop-i.invariant k (omega (arith, c.loop-i-test.false))))
