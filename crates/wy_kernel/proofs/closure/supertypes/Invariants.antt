use Rattle.std.proofs.Common.{◌≡◌, ℕ, List, length, slice_get, Some}
use Rattle.std.specs.Prelude.{map}
use Rattle.wy_kernel.specs.Table.{HasSupertypes}
use Rattle.wy_kernel.specs.View.{class_of}
use Rattle.wy_kernel.proofs.closure.supertypes.Given as goal

abbrev pub invariant-loop-c : goal.invariant-loop-c
invariant-loop-c l = record {
  many : length l.rows.items ≡ l.c;
  each : (k : ℕ) (row : List ℕ) → slice_get (map (λ r. r.items) l.rows.items) k ≡ Some row → HasSupertypes (map class_of l.classes) k row;
}
