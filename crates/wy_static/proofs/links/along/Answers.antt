use Rattle.std.proofs.Common.{List, take_all, get_or, subst}
use Rattle.std.proofs.lemmas.List.{get_or_default}
use Rattle.wy_static.specs.Seen.{seen_by}
use Rattle.wy_static.specs.declared.point.LinkKind.TheVariants as kind
use Rattle.wy_static.specs.declared.point.Point.TheVariants as point
use Rattle.wy_static.specs.declared.way.Goal.TheVariants.{Known}
use Rattle.wy_static.specs.declared.way.Way.{Way}
use Rattle.wy_static.specs.Along.{AreAlong}
use Rattle.wy_static.proofs.Along.{one_more}
use Rattle.wy_static.proofs.links.along.Goals as goal

pub loop-way-preserved : goal.loop-way-preserved
loop-way-preserved c =
    let ways = c.args.ways.now in
    let i = c.loop-way.way-index in
    let any : Way = record { kind = kind.Into; from = point.Start; goal = Known point.Start; site = 0 } in
    let way = get_or ways i any in
    record {
      targets = c.in_ok-put_way.ensures.targets;
      along = one_more (seen_by c.args.dispatcher.now) ways i way c.loop-way.out.items c.put_way.new.out.items c.loop-way-test.true (get_or_default ways i any way c.loop-way-test.true) c.loop-way.invariant.along c.in_ok-put_way.ensures.added;
    }

pub returns : goal.returns
returns c = subst (λ (ws : List Way). AreAlong (seen_by c.args.dispatcher.now) ws c.loop-way.out.items) (take_all c.loop-way.way-index c.args.ways.now c.loop-way-test.false) c.loop-way.invariant.along
