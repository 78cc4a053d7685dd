use Rattle.std.proofs.Common.{◌≡◌, ◌++◌, take}
use Rattle.std.specs.List.{flat_map}
use Rattle.wy_kernel.specs.Substatements.{statements_seen}
use Rattle.wy_kernel.proofs.Substatements.{of_body}
use Rattle.wy_kernel.proofs.statements.put_bodies.Given as goal

abbrev pub invariant-loop-body : goal.invariant-loop-body
invariant-loop-body l = statements_seen l.out.items ≡ statements_seen l.fn.out.items ++ flat_map of_body (take l.body-index l.bodies)
