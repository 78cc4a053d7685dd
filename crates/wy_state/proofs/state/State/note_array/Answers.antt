use Rattle.std.proofs.Common.{◌≡◌, ◌∙◌, pos, arith, to_z, of_z, w32, FitsSigned}
use Rattle.std.proofs.lemmas.Int.{to_z-of_z}
use Rattle.std.proofs.lemmas.Result.{err_from_is_err_and}
use Rattle.wy_state.specs.Agrees.{shape}
use Rattle.wy_state.proofs.Makers.{array_noted, array_refused, drafted_array, no_elements_left}
use Rattle.wy_state.proofs.state.State.note_array.Goals as goal

pub returns-then-total-from-clause-step : goal.returns-then-total-from-clause-step
returns-then-total-from-clause-step g c p = no_elements_left p (shape g.R.Register.keeps g.R.Register.kept c.args.self.now) _ _ c.args.length _ (omega arith)

pub returns-in_err-number-clause-step : goal.returns-in_err-number-clause-step
returns-in_err-number-clause-step g c p =
    let e = err_from_is_err_and c.from_residual.result c.from_residual.ensures.1 in
    rw (e.1, e.2) (array_refused p (shape g.R.Register.keeps g.R.Register.kept c.args.self.now) _ _ _ c.args.length _ (omega arith) _ (omega arith) c.in_err-number.field-0.0 (c.in_err-number.ensures {u = tt}).recorded)

pub returns-clause-step : goal.returns-clause-step
returns-clause-step g c p =
    let fits : FitsSigned w32 c.in-Ok.size = record { sfits = omega arith } in
    let is : to_z w32 (of_z w32 c.in-Ok.size) ≡ pos c.args.length = to_z-of_z w32 c.in-Ok.size fits ∙ c.in-Ok.ensures.1 in
    array_noted p (shape g.R.Register.keeps g.R.Register.kept c.args.self.now) _ _ _ c.args.length _ (omega arith) _ (omega arith) c.in_ok-number.number _ _ c.new.ensures.items (c.in_ok-number.ensures {u = tt}).recorded _ (drafted_array c.args.site c.args.code _ c.args.length c.if-code-eq-NONE.false is) (c.in_ok-make_array.ensures {u = tt}).made
