-- Slots as keys, in the order of an index.
use Rattle.std.specs.Prelude.{ℕ}
use Rattle.std.specs.declared.cmp.Ordering.{Ordering}
use Rattle.std.specs.Ordering.{nat_cmp, ordering_then}
use Rattle.wy_event.specs.declared.record.Slot.{Slot}
use Rattle.wy_index.specs.Order.{kind_rank, holder_rank, part_rank}

abbrev pub key_of : Slot → ℕ × ℕ × ℕ
key_of x = (kind_rank x, holder_rank x, part_rank x)

abbrev pub key_cmp : ℕ × ℕ × ℕ → ℕ × ℕ × ℕ → Ordering
key_cmp a b = ordering_then (ordering_then (nat_cmp a.0 b.0) (nat_cmp a.1 b.1)) (nat_cmp a.2 b.2)
