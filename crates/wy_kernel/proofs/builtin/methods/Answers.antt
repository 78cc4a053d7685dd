use Rattle.std.proofs.Common.{◌≡◌, ◌≤◌, ◌-◌, ◌++◌, ℕ, ap, sym, ◌∙◌, arith}
use Rattle.wy_kernel.specs.Builtin.{first_methods, methods, all_constructors}
use Rattle.wy_kernel.proofs.Builtins.{with_two}
use Rattle.wy_kernel.proofs.builtin.methods.Goals as goal

pub loop-class-preserved : goal.loop-class-preserved
loop-class-preserved c =
    with_two first_methods _ _ _ _ _ c.loop-class.class c.loop-class.auto.class c.in_ok-push.ensures.items c.in_ok-push-2.ensures.items c.loop-class.invariant c.in_ok-constructor.ensures c.in_ok-constructor-2.ensures

pub returns : goal.returns
unfolding methods
returns c =
    let all : c.loop-class.class - 3 ≡ 15 = omega (arith, c.loop-class-test.false, c.loop-class.auto.class-end) in
    c.loop-class.invariant ∙ ap (λ n. first_methods ++ all_constructors n) all
