use Rattle.wy_kernel.proofs.Found.{found_at, go_on, of_bodies, more_bodies}
use Rattle.wy_kernel.proofs.search.find_in_bodies.Goals as goal

pub loop-body-preserved : goal.loop-body-preserved
loop-body-preserved c = go_on _ _ of_bodies more_bodies c.args.bodies.now c.loop-body.body-index c.body-item.result c.find_in_body.result c.loop-body-test.true c.body-item.is c.loop-body.invariant c.in_default.is c.find_in_body.ensures

pub returns-in-Some : goal.returns-in-Some
returns-in-Some c = found_at _ _ of_bodies more_bodies c.args.bodies.now c.loop-body.body-index c.body-item.result c.find_in_body.result c.in-Some.found c.loop-body-test.true c.body-item.is c.loop-body.invariant c.in-Some.is c.find_in_body.ensures
