use Rattle.std.proofs.Common.{◌≡◌, ◌∙◌, map, take, ap, arith}
use Rattle.std.proofs.lemmas.Grind.{common_steps}
use Rattle.wy_static.specs.declared.point.Point.TheVariants as point
use Rattle.wy_paths.proofs.Lists.{map_next}
use Rattle.wy_scope.specs.Passing.{passed}
use Rattle.wy_scope.proofs.passed.passed_regions.Goals as goal

pub loop-region-preserved : goal.loop-region-preserved
loop-region-preserved c = record {
  sized = grind (arith, common_steps, c.in_ok-push.ensures.items, c.loop-region.invariant.sized);
  passed = λ p rs call are is.
      map_next (passed p rs call) c.args.regions.now c.loop-region.region-index point.Start c.loop-region.begun.items _ c.is_passed.result c.loop-region-test.true
      (c.loop-region.invariant.passed p rs call are is) c.in_ok-push.ensures.items (c.is_passed.ensures p rs call are is);
}

pub returns-clause-passed : goal.returns-clause-passed
returns-clause-passed c = λ p rs call are is.
    let whole : take c.loop-region.region-index c.args.regions.now ≡ c.args.regions.now = grind (arith, common_steps) in
    c.loop-region.invariant.passed p rs call are is ∙ ap (map (passed p rs call)) whole
