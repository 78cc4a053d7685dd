use Rattle.std.proofs.Common.{drop, map}
use Rattle.wy_kernel.specs.Program.{Program}
use Rattle.wy_kernel.specs.View.{body_of}
use Rattle.wy_meaning.specs.Call.{bind_all}
use Rattle.wy_operation.specs.Around.{IsSameAround}
use Rattle.wy_operation.specs.Operands.{carried}
use Rattle.wy_state.specs.Agrees.{Onward, shape}
use Rattle.wy_operation.proofs.binding.bind_all.Given as goal

abbrev pub invariant-loop-index : goal.invariant-loop-index
invariant-loop-index g l = record {
  step : (p : Program) →
      Onward p (shape g.R.Register.keeps g.R.Register.kept l.initial.state) (bind_all (body_of l.body) l.frame 0 (map carried l.parts))
      (shape g.R.Register.keeps g.R.Register.kept l.state) (bind_all (body_of l.body) l.frame l.index (map carried (drop l.index l.parts)));
  around : IsSameAround l.initial.state.calls l.state.calls;
}
