use Rattle.std.proofs.Common.{◌∙◌, ap, sym}
use Rattle.wy_kernel.specs.View.{present}
use Rattle.wy_steps.specs.Steps.{code_of}
use Rattle.wy_state.proofs.Numbers.{present_some, present_none}
use Rattle.wy_state.proofs.Slots.{local_goes}
use Rattle.wy_state.proofs.state.State.local.Goals as goal

pub returns-then-frame-clause-step : goal.returns-then-frame-clause-step
unfolding code_of
returns-then-frame-clause-step g c p = local_goes p _ _ _ (ap code_of (sym c.frame-frame.ensures ∙ ap present c.if-frame.true ∙ present_none))

pub returns-else-frame-clause-step : goal.returns-else-frame-clause-step
unfolding code_of
returns-else-frame-clause-step g c p = local_goes p _ _ _ (ap code_of (sym c.frame-frame.ensures ∙ present_some c.frame-frame.result c.if-frame.false))
