use Rattle.std.proofs.lemmas.Result.{on_ok_weaker}
use Rattle.wy_kernel.specs.Builtin.{classes}
use Rattle.wy_kernel.specs.View.{present}
use Rattle.wy_kernel.proofs.Builtins.{six_behind}
use Rattle.wy_kernel.proofs.builtin.put_last_classes.Goals as goal

pub returns : goal.returns
unfolding classes present
returns c =
    on_ok_weaker c.put-6.result (six_behind _ _ _ _ _ _ _ _ _ _ _ _ _ c.in_ok-put.ensures c.in_ok-put-2.ensures c.in_ok-put-3.ensures c.in_ok-put-4.ensures c.in_ok-put-5.ensures) c.put-6.ensures
