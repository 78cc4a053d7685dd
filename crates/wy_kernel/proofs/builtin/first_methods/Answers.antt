use Rattle.std.proofs.Common.{ap, ◌∙◌, refl}
use Rattle.std.specs.Prelude.{map}
use Rattle.wy_kernel.specs.Builtin.{first_methods}
use Rattle.wy_kernel.specs.View.{method_of}
use Rattle.wy_kernel.proofs.Indexed.{beside}
use Rattle.wy_kernel.proofs.builtin.first_methods.Goals as goal

pub returns : goal.returns
unfolding first_methods
returns c =
    ap (map method_of) c.in_ok-vec.ensures.items
    ∙ beside c.in_ok-instance.ensures (beside c.in_ok-instance-2.ensures (beside c.in_ok-constructor.ensures (beside c.in_ok-constructor-2.ensures (beside c.in_ok-instance-3.ensures (beside c.in_ok-instance-4.ensures refl)))))
