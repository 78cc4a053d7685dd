-- One look beside, and then no more than a number of postings can be halved.
use Rattle.std.proofs.Common.{length, arith}
use Rattle.wy_index.proofs.Orders.{few_steps}
use Rattle.wy_index.proofs.posting.Postings.last_before.Goals as goal

pub returns-then-gap-eq0-clause-steps : goal.returns-then-gap-eq0-clause-steps
returns-then-gap-eq0-clause-steps g c = λ l is.
    omega (arith, c.beside-gap.ensures.steps, c.closed-gap.ensures.forward, few_steps c.beside-gap.new.steps c.closed-gap.new.steps (length c.args.self.now) l c.closed-gap.ensures.steps is)

pub returns-clause-last : goal.returns-clause-last
returns-clause-last g c =
    let gap = c.closed-gap.ensures.gap in
    let front = gap.front (omega arith) in
    (front.0, front.1, λ i p le at. gap.behind i p (omega (arith, le, c.closed-gap.ensures.closed)) at)

pub returns-clause-steps : goal.returns-clause-steps
returns-clause-steps g c = λ l is.
    omega (arith, c.beside-gap.ensures.steps, c.closed-gap.ensures.forward, few_steps c.beside-gap.new.steps c.closed-gap.new.steps (length c.args.self.now) l c.closed-gap.ensures.steps is)
