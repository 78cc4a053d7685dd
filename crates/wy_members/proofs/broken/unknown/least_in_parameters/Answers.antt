use Rattle.std.proofs.Common.{map}
use Rattle.wy_members.specs.Names.{unit_of}
use Rattle.wy_syntax.specs.Syntax.{Parameter}
use Rattle.wy_syntax.specs.View.{parameter_of}
use Rattle.wy_members.specs.Within.{UnknownType}
use Rattle.wy_members.proofs.Leasts.{none_yet, more_seen, gone_seen}
use Rattle.wy_members.proofs.broken.unknown.least_in_parameters.Goals as goal

pub loop-param-init : goal.loop-param-init
loop-param-init c = none_yet (λ i (p : Parameter). UnknownType (unit_of c.args.names.now) p.ty) (map parameter_of c.args.params.now)

pub loop-param-preserved : goal.loop-param-preserved
loop-param-preserved c =
    more_seen parameter_of (λ i (p : Parameter). UnknownType (unit_of c.args.names.now) p.ty) c.args.params.now c.loop-param.param-index c.param-item.result _ _ _ c.loop-param-test.true c.param-item.is c.loop-param.invariant c.least_in_type.ensures c.lesser-least.ensures

pub returns : goal.returns
returns c = gone_seen parameter_of (λ i (p : Parameter). UnknownType (unit_of c.args.names.now) p.ty) c.args.params.now c.loop-param.param-index _ c.loop-param-test.false c.loop-param.invariant
