use Rattle.std.proofs.Common.{◌∙◌, ap, sym}
use Rattle.wy_steps.specs.Steps.{begun}
use Rattle.wy_state.specs.Seen.{covered_of}
use Rattle.wy_state.proofs.Budget.{begin_goes}
use Rattle.wy_state.proofs.state.State.begin.Goals as goal

pub returns-clause-step : goal.returns-clause-step
returns-clause-step g c p =
    rw (c.in_ok-begin.ensures {u = tt}) (begin_goes p _ _ _ c.in-Some.ensures.inside (c.in-Some-begun_at.ensures ∙ ap (λ x. begun c.args.self.now.events (covered_of x)) (sym c.in-Some.ensures.found)))
