use Rattle.std.proofs.Common.{◌∙◌, ap, subst}
use Rattle.wy_steps.specs.State.{Around}
use Rattle.wy_calls.specs.Calls.{activated}
use Rattle.wy_calls.specs.Layout.{IsNext}
use Rattle.wy_calls.proofs.CallStacks.{activated_is, stands_with_more}
use Rattle.wy_calls.proofs.calls.Calls.activate.Goals as goal

pub invariant_of-self-2 : goal.invariant_of-self-2
invariant_of-self-2 c =
    let next : IsNext c.self.inside.active.items c.args.event = subst (λ es. IsNext es c.args.event) c.deref.ensures.value (c.is_next.ensures c.if-not-is_next.false) in
    rw c.in_ok-push.ensures.items (stands_with_more _ _ _ _ tt next c.self.invariant)

pub returns : goal.returns
returns c = activated_is _ _ _ _ _ _ c.in_ok-push.ensures.items c.self.invariant ∙ ap (activated c.args.event Around) c.self.view_is
