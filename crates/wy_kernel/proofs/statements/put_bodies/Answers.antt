use Rattle.std.proofs.Common.{List, ap, ◌∙◌, ◌++◌}
use Rattle.std.specs.List.{flat_map}
use Rattle.std.proofs.lemmas.List.{take_all}
use Rattle.wy_kernel.specs.Form.{Statement}
use Rattle.wy_kernel.specs.Substatements.{statements_seen}
use Rattle.wy_kernel.proofs.Substatements.{of_body, of_bodies}
use Rattle.wy_kernel.proofs.statements.put_bodies.Goals as goal

pub returns : goal.returns
returns c = c.loop-body.invariant ∙ ap (λ (l : List Statement). statements_seen c.args.out.now.items ++ l) (ap (flat_map of_body) (take_all c.loop-body.body-index c.args.bodies.now c.loop-body-test.false) ∙ of_bodies c.args.bodies.now)
