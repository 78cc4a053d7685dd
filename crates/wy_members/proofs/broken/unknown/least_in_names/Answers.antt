use Rattle.std.proofs.Common.{map}
use Rattle.wy_members.specs.Names.{unit_of}
use Rattle.wy_syntax.specs.View.{named_of}
use Rattle.wy_members.specs.Within.{UnknownNamed}
use Rattle.wy_members.proofs.Leasts.{none_yet, more_seen, gone_seen}
use Rattle.wy_members.proofs.broken.unknown.least_in_names.Goals as goal

pub loop-name-init : goal.loop-name-init
loop-name-init c = none_yet (λ i name. UnknownNamed (unit_of c.args.names.now) name) (map named_of c.args.written.now)

pub loop-name-preserved : goal.loop-name-preserved
loop-name-preserved c =
    more_seen named_of (λ i name. UnknownNamed (unit_of c.args.names.now) name) c.args.written.now c.loop-name.name-index c.name-item.result _ _ _ c.loop-name-test.true c.name-item.is c.loop-name.invariant c.least_in_name.ensures c.lesser-least.ensures

pub returns : goal.returns
returns c = gone_seen named_of (λ i name. UnknownNamed (unit_of c.args.names.now) name) c.args.written.now c.loop-name.name-index _ c.loop-name-test.false c.loop-name.invariant
