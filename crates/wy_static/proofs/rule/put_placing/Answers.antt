use Rattle.std.proofs.Common.{ap, ◌∙◌}
use Rattle.wy_kernel.specs.Parts.{program_of}
use Rattle.wy_kernel.specs.View.{place as place_seen}
use Rattle.wy_static.specs.Ways.{placing}
use Rattle.wy_static.proofs.Behind.{at}
use Rattle.wy_static.proofs.Rules.{no_static}
use Rattle.wy_kernel.proofs.ExpressionViews.{view_static}
use Rattle.wy_static.proofs.rule.put_placing.Goals as goal

pub returns-in_ok-class_of_field-in-Static : goal.returns-in_ok-class_of_field-in-Static
returns-in_ok-class_of_field-in-Static c = at (placing (program_of c.args.program.now) c.args.owner) c.put_initializing.result c.args.out.now.items c.put_initializing.new.out.items (place_seen c.args.place.now) _ (ap place_seen c.in-Static.is ∙ view_static _ _) (rw (← c.in_ok-class_of_field-in-Static.ensures) c.put_initializing.ensures)

pub returns-in-Local : goal.returns-in-Local
returns-in-Local c = no_static (program_of c.args.program.now) c.args.out.now.items c.args.owner c.args.place.now c.in-Local.is

pub returns-in-Local-2 : goal.returns-in-Local-2
returns-in-Local-2 c = no_static (program_of c.args.program.now) c.args.out.now.items c.args.owner c.args.place.now c.in-Local.is

pub returns-in-Local-3 : goal.returns-in-Local-3
returns-in-Local-3 c = no_static (program_of c.args.program.now) c.args.out.now.items c.args.owner c.args.place.now c.in-Local.is
