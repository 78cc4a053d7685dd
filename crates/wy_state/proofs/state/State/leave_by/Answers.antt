use Rattle.std.proofs.Common.{◌∙◌, ap, sym}
use Rattle.wy_steps.specs.Steps.{left_by}
use Rattle.wy_state.specs.Seen.{covered_of}
use Rattle.wy_state.proofs.Budget.{leave_goes}
use Rattle.wy_state.proofs.state.State.leave_by.Goals as goal

pub returns-clause-step : goal.returns-clause-step
returns-clause-step g c p =
    leave_goes p _ _ _ c.in-Some.ensures.inside c.args.event _ c.end.ensures (c.left_by.ensures.cover ∙ ap (λ x. left_by c.args.event (covered_of x)) (sym c.in-Some.ensures.found))
