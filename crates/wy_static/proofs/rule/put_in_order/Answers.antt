use Rattle.std.proofs.lemmas.List.{drop_all}
use Rattle.wy_static.proofs.Rules.{order_goes_on, order_ends}
use Rattle.wy_static.proofs.rule.put_in_order.Goals as goal

pub loop-part-preserved : goal.loop-part-preserved
loop-part-preserved c = order_goes_on _ c.loop-part.out.items c.put_to.new.out.items c.loop-part.kind c.loop-part.owner c.owner_of-owner.result c.args.parts.now c.loop-part.part-index c.part-item.result c.loop-part-test.true c.part-item.is c.loop-part.invariant c.in_ok-put_to.ensures c.owner_of-owner.ensures

pub returns : goal.returns
returns c = order_ends _ c.loop-part.out.items c.loop-part.kind c.loop-part.owner c.args.parts.now c.loop-part.part-index c.loop-part-test.false (drop_all c.loop-part.part-index c.args.parts.now c.loop-part-test.false) c.loop-part.invariant
