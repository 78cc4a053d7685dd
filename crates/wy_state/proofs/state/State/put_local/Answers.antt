use Rattle.std.proofs.Common.{◌∙◌, ap, sym}
use Rattle.std.proofs.lemmas.Option.{slice_get_within}
use Rattle.wy_kernel.specs.View.{present}
use Rattle.wy_calls.specs.Calls.{locals_of}
use Rattle.wy_state.proofs.Numbers.{present_some}
use Rattle.wy_state.proofs.Slots.{put_local_goes}
use Rattle.wy_state.proofs.state.State.put_local.Goals as goal

pub set_local-requires : goal.set_local-requires
set_local-requires g c = slice_get_within (locals_of c.args.self.now.calls.frames) c.args.index _ (sym c.in-Some.ensures)

pub returns-clause-step : goal.returns-clause-step
returns-clause-step g c p =
    put_local_goes p _ _ _ _ c.set_local.ensures (slice_get_within (locals_of c.args.self.now.calls.frames) c.args.index _ (sym c.in-Some.ensures)) c.args.frame (ap present c.if-frame.false ∙ c.frame.ensures) (present_some c.args.frame c.if-frame-eq-NONE.false)
