use Rattle.std.proofs.Common.{List, sym, subst}
use Rattle.std.specs.List.{Contains}
use Rattle.wy_static.specs.declared.point.Point.{Point}
use Rattle.wy_paths.specs.Numbers.{AreNumbered}
use Rattle.wy_paths.proofs.Placing.{numbered}
use Rattle.wy_paths.proofs.search.Found.new.Goals as goal

pub reached-requires-clause-numbered : goal.reached-requires-clause-numbered
reached-requires-clause-numbered c = subst (AreNumbered c.args.links.now) (sym c.deref.ensures.value) (numbered c.args.links.now c.args.start c.args.goal c.args.points.items c.requires.points)

pub reached-requires-clause-start : goal.reached-requires-clause-start
reached-requires-clause-start c = subst (λ (ps : List Point). Contains ps c.args.start) (sym c.deref.ensures.value) c.requires.points.there.has_start

pub leading-requires-clause-numbered : goal.leading-requires-clause-numbered
leading-requires-clause-numbered c = subst (AreNumbered c.args.links.now) (sym c.deref-2.ensures.value) (numbered c.args.links.now c.args.start c.args.goal c.args.points.items c.requires.points)
