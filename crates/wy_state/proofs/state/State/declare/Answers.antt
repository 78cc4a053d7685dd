use Rattle.std.proofs.Common.{sym}
use Rattle.std.proofs.lemmas.Option.{slice_get_within}
use Rattle.wy_calls.specs.Calls.{locals_of}
use Rattle.wy_state.proofs.Slots.{declare_goes}
use Rattle.wy_state.proofs.state.State.declare.Goals as goal

pub set_local-requires : goal.set_local-requires
set_local-requires g c = slice_get_within (locals_of c.args.self.now.calls.frames) c.args.index _ (sym c.in-Some.ensures)

pub returns-clause-step : goal.returns-clause-step
returns-clause-step g c p = declare_goes p _ _ _ c.set_local.ensures (slice_get_within (locals_of c.args.self.now.calls.frames) c.args.index _ (sym c.in-Some.ensures))
