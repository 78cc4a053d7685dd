use Rattle.std.proofs.lemmas.Result.{err_from_is_err_and}
use Rattle.wy_state.specs.Seen.{made_of}
use Rattle.wy_state.proofs.Inits.{drafted_init, init_noted}
use Rattle.wy_state.proofs.Makers.{new_refused}
use Rattle.wy_state.proofs.state.State.note_init.Goals as goal

pub returns-in_err-number-clause-step : goal.returns-in_err-number-clause-step
returns-in_err-number-clause-step g c p =
    let e = err_from_is_err_and c.from_residual.result c.from_residual.ensures.1 in
    rw (e.1, e.2) (new_refused p _ _ _ _ made_of _ c.in_err-number.field-0.0 (c.in_err-number.ensures {u = tt}).recorded)

pub returns-clause-step : goal.returns-clause-step
returns-clause-step g c p =
    init_noted p _ _ c.args.site c.args.class c.in_ok-number.number _ _ c.new.ensures.items (c.in_ok-number.ensures {u = tt}).recorded _ (drafted_init c.args.site c.args.class c.if-class-eq-NONE.false) c.requires (c.in_ok-make_class.ensures {u = tt}).made
