use Rattle.std.proofs.Common.{ap, true}
use Rattle.wy_kernel.specs.Program as parts
use Rattle.wy_kernel.specs.Builtin.{string}
use Rattle.wy_kernel.specs.View.{present}
use Rattle.wy_kernel.proofs.Builtins.{class_behind}
use Rattle.wy_kernel.proofs.builtin.put_string.Goals as goal

pub returns : goal.returns
unfolding present
returns c =
    class_behind _ _ _ string c.in_ok-push.ensures.items (ap (λ (k : parts.Class). record k { is_final = true }) c.in_ok-class.ensures)
