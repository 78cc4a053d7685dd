use Rattle.std.proofs.Common.{◌≡◌, ◌∙◌, List, Bool, length, map, sym, ap, subst}
use Rattle.wy_static.specs.declared.point.Point.{Point}
use Rattle.wy_static.specs.declared.point.Point.TheVariants as point
use Rattle.wy_paths.specs.Numbers.{ArePoints}
use Rattle.wy_whynot.specs.Executed.{executed}
use Rattle.wy_whynot.proofs.Begun.{never_executed}
use Rattle.wy_whynot.proofs.Chaining.{are_blocked}
use Rattle.wy_whynot.proofs.blocked.blocked_links.Goals as goal

pub frontier-requires-clause-sized : goal.frontier-requires-clause-sized
frontier-requires-clause-sized c = c.in_ok-begun.ensures.sized ∙ ap length c.deref.ensures.value

pub returns : goal.returns
returns c = λ p rs are is_index never.
    let begun = c.in_ok-begun.ensures.executed rs is_index ∙ ap (map (executed rs c.args.coverage.now)) c.deref.ensures.value in
    are_blocked p rs c.args.coverage.now c.args.statement c.args.links.now c.in_ok-blocked.blocked.items are
    (c.in_ok-blocked.ensures (executed rs c.args.coverage.now) begun (never_executed rs c.args.coverage.now c.args.statement never))
