use Rattle.std.proofs.Common.{◌≡◌, ◌<◌, ◌≤◌, ℕ, length, get_or}
use Rattle.wy_heap.specs.Layout.{KeepsOffsets, no_offset}
use Rattle.wy_heap.proofs.layout.place_fields.Given as goal

abbrev pub invariant-loop-place : goal.invariant-loop-place
invariant-loop-place l = record {
  many : length l.offsets.items ≡ length l.initial.offsets.items;
  kept : KeepsOffsets l.initial.offsets.items l.offsets.items;
  few : l.place ≤ no_offset;
  placed : (k : ℕ) → k < l.place → get_or l.offsets.items (get_or l.row k 0) no_offset ≡ k;
}
