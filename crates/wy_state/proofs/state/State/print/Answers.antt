use Rattle.std.proofs.Common.{arith}
use Rattle.std.proofs.lemmas.Result.{err_from_is_err_and}
use Rattle.wy_state.specs.Agrees.{shape}
use Rattle.wy_state.proofs.Records.{no_output_left, print_halts, print_goes}
use Rattle.wy_state.proofs.state.State.print.Goals as goal

pub returns-then-total-gt-OUTPUT_LIMIT-clause-step : goal.returns-then-total-gt-OUTPUT_LIMIT-clause-step
returns-then-total-gt-OUTPUT_LIMIT-clause-step g c p = no_output_left p _ _ _ _ _ (omega arith)

pub returns-in_err-note-clause-step : goal.returns-in_err-note-clause-step
returns-in_err-note-clause-step g c p =
    let e = err_from_is_err_and c.from_residual.result c.from_residual.ensures.1 in
    rw (e.1, e.2) (print_halts p (shape g.R.Register.keeps g.R.Register.kept c.args.self.now) _ _ _ _ (omega arith) _ c.plain.ensures.draft _ c.plain.ensures.value _ c.in_err-note.field-0.0 ((c.in_err-note.ensures {u = tt}).step p))

pub returns-clause-step : goal.returns-clause-step
returns-clause-step g c p =
    print_goes p (shape g.R.Register.keeps g.R.Register.kept c.args.self.now) _ _ _ _ (omega arith) _ c.plain.ensures.draft _ c.plain.ensures.value _ _ ((c.in_ok-note.ensures {u = tt}).step p) _ (c.in_ok-extend_from_slice.ensures {u = tt}).items
