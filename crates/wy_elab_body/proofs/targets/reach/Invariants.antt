use Rattle.std.proofs.Common.{◌≡◌, drop, find}
use Rattle.wy_elab_body.specs.Jumps.{is_among}
use Rattle.wy_elab_body.proofs.targets.reach.Given as goal

abbrev pub invariant-loop-outer : goal.invariant-loop-outer
invariant-loop-outer l = find (is_among l.targets) l.around.enclosing.items ≡ find (is_among l.targets) (drop l.outer-index l.around.enclosing.items)
