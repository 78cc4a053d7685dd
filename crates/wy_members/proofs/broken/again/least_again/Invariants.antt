use Rattle.std.proofs.Common.{IsTrue, ◌↔◌}
use Rattle.std.specs.HashSet.{contains}
use Rattle.wy_members.specs.declared.broken.key.Key as memory
use Rattle.wy_members.specs.contracts.broken.key.KeyPartialEq.TheImpl.{eq-value}
use Rattle.wy_members.specs.Keys.{key_of}
use Rattle.wy_members.specs.Least.{IsLeast, RepeatsEarlier, Here}
use Rattle.wy_members.proofs.Keyed.{HasEarlier}
use Rattle.wy_members.proofs.Leasts.{Before}
use Rattle.wy_members.proofs.broken.again.least_again.Given as goal

abbrev pub invariant-loop-item : goal.invariant-loop-item
invariant-loop-item g l =
    IsLeast (Before l.items (λ j item. Here (RepeatsEarlier g.T.Repeats.same l.items j item) (g.T.Repeats.place item)) l.item-index) l.least
    × ((k : memory.Key) → IsTrue (contains eq-value.it l.seen k) ↔ HasEarlier g.T.Repeats.shared l.items l.item-index (key_of k))
