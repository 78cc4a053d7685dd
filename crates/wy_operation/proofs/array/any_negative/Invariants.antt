use Rattle.std.proofs.Common.{◌≡◌, drop, map}
use Rattle.wy_meaning.specs.Array.{any_negative}
use Rattle.wy_operation.specs.Operands.{carried}
use Rattle.wy_operation.proofs.array.any_negative.Given as goal

abbrev pub invariant-loop-dimension : goal.invariant-loop-dimension
invariant-loop-dimension l = any_negative (map carried l.dims) ≡ any_negative (map carried (drop l.dimension-index l.dims))
