use Rattle.std.proofs.Common.{◌≡◌, ◌++◌, take}
use Rattle.std.specs.List.{flat_map}
use Rattle.wy_static.specs.Seen.{form_seen, seen_by}
use Rattle.wy_static.specs.Ways.{owned_ways}
use Rattle.wy_static.proofs.rule.put_owned.Given as goal

abbrev pub invariant-loop-owned : goal.invariant-loop-owned
invariant-loop-owned l = l.out.items ≡ l.fn.out.items ++ flat_map (λ x. owned_ways (seen_by l.dispatcher) (form_seen x)) (take l.owned-index l.forms)
