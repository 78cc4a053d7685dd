use Rattle.std.proofs.Common.{◌≡◌, ◌++◌, take}
use Rattle.std.specs.List.{flat_map}
use Rattle.wy_static.specs.Seen.{form_seen}
use Rattle.wy_static.specs.Standings.{arm_standings}
use Rattle.wy_static.proofs.standing.put_all_arms.Given as goal

abbrev pub invariant-loop-owned : goal.invariant-loop-owned
invariant-loop-owned l = l.out.items ≡ l.fn.out.items ++ flat_map (λ x. arm_standings l.method l.around (form_seen x)) (take l.owned-index l.forms)
