use Rattle.std.proofs.Common.{◌∙◌, arith}
use Rattle.std.proofs.lemmas.Result.{err_from_is_err_and}
use Rattle.wy_state.specs.Agrees.{shape}
use Rattle.wy_state.proofs.Texts.{drafted_text, no_units_left, text_noted, text_refused}
use Rattle.wy_state.proofs.state.State.note_text.Goals as goal

pub returns-in_err-number-clause-step : goal.returns-in_err-number-clause-step
returns-in_err-number-clause-step g c p =
    let e = err_from_is_err_and c.from_residual.result c.from_residual.ensures.1 in
    rw (e.1, e.2) (text_refused p (shape g.R.Register.keeps g.R.Register.kept c.args.self.now) _ _ _ (omega arith) _ (omega arith) _ c.in_err-number.field-0.0 (c.in_err-number.ensures {u = tt}).recorded)

pub returns-then-total-clause-step : goal.returns-then-total-clause-step
returns-then-total-clause-step g c p = no_units_left p (shape g.R.Register.keeps g.R.Register.kept c.args.self.now) _ _ _ (omega arith)

pub returns-clause-step : goal.returns-clause-step
returns-clause-step g c p =
    text_noted p (shape g.R.Register.keeps g.R.Register.kept c.args.self.now) c.args.site c.args.units.items _ (omega arith) _ (omega arith) _ c.in_ok-number.number _ _ (drafted_text c.args.site c.args.units.items) (c.in_ok-number.ensures {u = tt}).recorded _ (c.as_slice.ensures.value ∙ (c.in_ok-number.ensures {u = tt}).units) (c.in_ok-make_text.ensures {u = tt}).made
