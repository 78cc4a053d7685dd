use Rattle.std.proofs.Common.{List, take_all, get_or, subst}
use Rattle.std.proofs.lemmas.List.{get_or_default}
use Rattle.wy_static.specs.declared.point.Link.{Link}
use Rattle.wy_static.specs.declared.point.LinkKind.TheVariants as kind
use Rattle.wy_static.specs.declared.point.Point.TheVariants as point
use Rattle.wy_static.specs.Along.{AreCalled}
use Rattle.wy_static.proofs.Called.{one_more}
use Rattle.wy_static.proofs.links.targets_at.Goals as goal

pub loop-link-preserved : goal.loop-link-preserved
loop-link-preserved c =
    let links = c.args.links.now in
    let i = c.loop-link.link-index in
    let any : Link = record { kind = kind.Into; from = point.Start; to = point.Start; site = 0 } in
    let link = get_or links i any in
    one_more links i link c.loop-link.targets c.keep_called.new.targets c.requires c.loop-link-test.true (get_or_default links i any link c.loop-link-test.true) c.loop-link.invariant c.in_ok-keep_called.ensures

pub returns : goal.returns
returns c = subst (λ (xs : List Link). AreCalled xs c.loop-link.targets) (take_all c.loop-link.link-index c.args.links.now c.loop-link-test.false) c.loop-link.invariant
