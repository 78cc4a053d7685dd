use Rattle.std.proofs.Common.{◌≡◌, ◌∙◌, map, take, ap, arith}
use Rattle.std.proofs.lemmas.Grind.{common_steps}
use Rattle.wy_static.specs.declared.point.Point.TheVariants as point
use Rattle.wy_whynot.specs.Executed.{executed}
use Rattle.wy_paths.proofs.Lists.{map_next}
use Rattle.wy_whynot.proofs.executed.executed_points.Goals as goal

pub loop-point-preserved : goal.loop-point-preserved
loop-point-preserved c = record {
  sized = grind (arith, common_steps, c.in_ok-push.ensures.items, c.loop-point.invariant.sized);
  executed = λ rs is.
      map_next (executed rs c.args.coverage.now) c.args.points.now c.loop-point.point-index point.Start c.loop-point.begun.items _ c.is_executed.result c.loop-point-test.true
      (c.loop-point.invariant.executed rs is) c.in_ok-push.ensures.items (c.is_executed.ensures rs is);
}

pub returns-clause-executed : goal.returns-clause-executed
returns-clause-executed c = λ rs is.
    let whole : take c.loop-point.point-index c.args.points.now ≡ c.args.points.now = grind (arith, common_steps) in
    c.loop-point.invariant.executed rs is ∙ ap (map (executed rs c.args.coverage.now)) whole
