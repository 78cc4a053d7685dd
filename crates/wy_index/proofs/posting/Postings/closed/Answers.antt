-- Each look halves what is left.
use Rattle.std.proofs.Common.{◌≡◌, ◌+◌, ◌-◌, ◌*◌, ◌^◌, ◌≤◌, sym, ap, subst, ⊎_elim, arith, length}
use Rattle.wy_index.proofs.Orders.{step_pays}
use Rattle.wy_index.proofs.posting.Postings.closed.Goals as goal

pub loop-gap-init : goal.loop-gap-init
loop-gap-init g c =
    let none : c.args.steps.now - c.args.steps.now ≡ 0 = omega arith in
    let one : 2 ^ (c.args.steps.now - c.args.steps.now) ≡ 1 = ap (λ n. 2 ^ n) none in
    let size = length c.args.self.now in
    let gap = c.requires.gap in
    record {
      gap = gap;
      forward = omega arith;
      halved = subst (λ n. n * (c.args.gap.high - c.args.gap.low) ≤ size) (sym one) (omega (arith, gap.within));
      taken = omega (arith, one);
    }

pub loop-gap-preserved : goal.loop-gap-preserved
loop-gap-preserved g c =
    let v = c.loop-gap.invariant in
    let old = c.loop-gap.gap in
    let new = c.look-gap.result in
    let size = length c.args.self.now in
    let half : 2 * (new.high - new.low) ≤ old.high - old.low = ⊎_elim (λ up. omega (arith, up.0, up.1, c.loop-gap-test.true)) (λ down. omega (arith, down.0, down.1, c.loop-gap-test.true)) c.look-gap.ensures.narrower in
    let paid = step_pays c.args.steps.now c.loop-gap.steps old.low old.high new.low new.high size v.forward c.loop-gap-test.true half v.halved in
    let step : c.look-gap.new.steps ≡ c.loop-gap.steps + 1 = c.look-gap.ensures.step in
    record {
      gap = c.look-gap.ensures.gap;
      forward = omega (arith, v.forward, step);
      halved = subst (λ s. 2 ^ (s - c.args.steps.now) * (new.high - new.low) ≤ size) (sym step) paid.0;
      taken = subst (λ s. 2 ^ (s - c.args.steps.now) ≤ 2 * size + 1) (sym step) paid.1;
    }
