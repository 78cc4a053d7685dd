use Rattle.std.proofs.Common.{◌≡◌, ◌*◌, ◌+◌, ◌-◌, length, map}
use Rattle.wy_kernel.specs.Program.{Program}
use Rattle.wy_meaning.specs.World.{World}
use Rattle.wy_meaning.specs.Array.{for_each}
use Rattle.wy_operation.specs.Around.{IsSameAround}
use Rattle.wy_operation.specs.Operands.{carried}
use Rattle.wy_operation.specs.Subarrays.{subarray}
use Rattle.wy_state.specs.Agrees.{Onward, shape}
use Rattle.wy_steps.specs.Sets.{nothing}
use Rattle.wy_operation.proofs.array.+subarrays.Given as goal

abbrev pub decreases-subarrays : goal.decreases-subarrays
decreases-subarrays g l = 2 * length l.dims.now

abbrev pub decreases-subarray : goal.decreases-subarray
decreases-subarray g l = 2 * length l.rest.now + 1

abbrev pub invariant-subarrays-loop-index : goal.invariant-subarrays-loop-index
invariant-subarrays-loop-index g l = record {
  step : (p : Program) (w : World nothing) → w.program ≡ p →
      Onward p (shape g.R.Register.keeps g.R.Register.kept l.initial.state) (for_each 0 l.count (subarray w l.site l.ty (carried l.first) (map carried l.rest) l.parent))
      (shape g.R.Register.keeps g.R.Register.kept l.state) (for_each l.index (l.count - l.index) (subarray w l.site l.ty (carried l.first) (map carried l.rest) l.parent));
  around : IsSameAround l.initial.state.calls l.state.calls;
}
