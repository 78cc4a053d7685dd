use Rattle.std.proofs.Common.{◌≡◌, drop}
use Rattle.wy_operands.specs.Layout.{beginning}
use Rattle.wy_operands.proofs.operands.beginning.Given as goal

abbrev pub invariant-loop-operand : goal.invariant-loop-operand
invariant-loop-operand l = beginning l.from (drop l.operand-index l.values) ≡ beginning l.end l.values
