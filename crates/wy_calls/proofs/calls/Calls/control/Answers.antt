use Rattle.std.specs.List.{All}
use Rattle.std.proofs.Common.{subst, ◌∙◌, ap, sym}
use Rattle.wy_calls.specs.Calls.{CallStack, IsUpTo}
use Rattle.wy_steps.specs.Steps.{parent}
use Rattle.wy_calls.proofs.CallStacks.{control_is, no_control, none_is_greater, none_is_there}
use Rattle.wy_calls.proofs.calls.Calls.control.Goals as goal

pub returns-in-Some-clause-parent : goal.returns-in-Some-clause-parent
returns-in-Some-clause-parent c = control_is c.self.inside.active.items c.in-Some.entry.now (sym (rw c.deref.ensures.value at c.in-Some.ensures.value)) ∙ ap (λ (s : CallStack). parent s.active) c.self.view_is

pub returns-in-None-clause-parent : goal.returns-in-None-clause-parent
returns-in-None-clause-parent c = no_control c.self.inside.active.items (sym (rw c.deref.ensures.value at c.in-None.ensures.value)) ∙ ap (λ (s : CallStack). parent s.active) c.self.view_is

pub returns-in-Some-clause-greatest : goal.returns-in-Some-clause-greatest
returns-in-Some-clause-greatest c =
    subst (λ (s : CallStack). All (λ a. IsUpTo c.in-Some.entry.now.number a) s.active) c.self.view_is
    (none_is_greater c.self.inside.active.items c.in-Some.entry.now c.self.invariant.ascends (sym (rw c.deref.ensures.value at c.in-Some.ensures.value)))

pub returns-in-None-clause-greatest : goal.returns-in-None-clause-greatest
returns-in-None-clause-greatest c =
    subst (λ (s : CallStack). All (λ a. IsUpTo 4294967295 a) s.active) c.self.view_is
    (none_is_there c.self.inside.active.items 4294967295 (sym (rw c.deref.ensures.value at c.in-None.ensures.value)))
