use Rattle.std.proofs.Common.{◌≡◌, take, sym, subst, arith}
use Rattle.std.proofs.lemmas.Grind.{common_steps}
use Rattle.std.proofs.lemmas.List.{take_more}
use Rattle.wy_state.specs.Above.{HasVisited}
use Rattle.wy_state.proofs.Climbing.{visited_more, visited_none}
use Rattle.wy_state.proofs.above.Climb.visit_all.Goals as goal

pub loop-class-init : goal.loop-class-init
loop-class-init c = visited_none _

pub loop-class-preserved : goal.loop-class-preserved
loop-class-preserved c =
    let i = c.loop-class.class-index in
    let classes = c.args.classes.now in
    subst (λ xs. HasVisited xs c.args.self.now c.visit.new.self) (sym (take_more classes i 0 c.loop-class-test.true))
    (visited_more (take i classes) _ c.args.self.now c.loop-class.self c.visit.new.self c.loop-class.invariant c.in_ok-visit.ensures.visited)

pub returns : goal.returns
returns c =
    let whole : take c.loop-class.class-index c.args.classes.now ≡ c.args.classes.now = grind (arith, common_steps) in
    record { visited = subst (λ xs. HasVisited xs c.args.self.now c.loop-class.self) whole c.loop-class.invariant }
