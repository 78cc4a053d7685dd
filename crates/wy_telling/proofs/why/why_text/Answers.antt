use Rattle.std.proofs.Common.{◌∙◌, sym, ap, subst, Err}
use Rattle.std.proofs.lemmas.Result.{err_from_is_err_and}
use Rattle.wy_kernel.specs.Parts.{program_of}
use Rattle.wy_telling.specs.Answers.{TellsAnswer}
use Rattle.wy_telling.specs.Why.{why_text}
use Rattle.wy_telling.proofs.Answering.{told_of, unasked}
use Rattle.wy_telling.proofs.why.why_text.Goals as goal

pub returns-in_err-event-clause-told : goal.returns-in_err-event-clause-told
returns-in_err-event-clause-told g c = λ rs is.
    let o = c.args.opened.now in
    let p = program_of o.program.now in
    let lines = o.program.now.lines.items in
    let left = err_from_is_err_and c.from_residual.result c.from_residual.ensures.1 in
    subst (TellsAnswer why_text p lines rs c.args.question.now) (sym (left.1 ∙ ap Err left.2)) (unasked why_text p lines rs c.args.question.now c.in_err-event.field-0.0 (c.in_err-event.ensures.found rs is))

pub returns-clause-told : goal.returns-clause-told
returns-clause-told g c = λ rs is.
    let o = c.args.opened.now in
    told_of why_text (program_of o.program.now) o.program.now.lines.items rs c.args.question.now c.in_ok-event.event c.in_ok-event_lines.field-0 (c.in_ok-event.ensures.found rs is) (c.in_ok-event_lines.ensures.lines rs is)
