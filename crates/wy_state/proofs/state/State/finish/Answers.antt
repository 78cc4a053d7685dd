use Rattle.std.proofs.Common.{◌∙◌, ap, sym}
use Rattle.wy_steps.specs.Steps.{ended}
use Rattle.wy_state.specs.Seen.{covered_of}
use Rattle.wy_state.proofs.Budget.{finish_goes}
use Rattle.wy_state.proofs.state.State.finish.Goals as goal

pub returns-clause-step : goal.returns-clause-step
returns-clause-step g c p =
    finish_goes p _ _ _ c.in-Some.ensures.inside _ c.end.ensures (c.in-Some-ended.ensures ∙ ap (λ x. ended (covered_of x)) (sym c.in-Some.ensures.found))
