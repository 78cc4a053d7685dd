use Rattle.std.proofs.Common.{◌∙◌, sym, ap, subst, Err}
use Rattle.std.specs.Prelude.{map}
use Rattle.std.proofs.lemmas.Result.{err_from_is_err_and}
use Rattle.wy_event.specs.Record.{recorded}
use Rattle.wy_kernel.specs.Parts.{program_of}
use Rattle.wy_ask.specs.Questions.{asked}
use Rattle.wy_fold.specs.Asked.{FindsAsked}
use Rattle.wy_fold.proofs.Questions.{found, unread}
use Rattle.wy_fold.proofs.asking.asked_event.Goals as goal

pub returns-clause-found : goal.returns-clause-found
returns-clause-found c =
    let o = c.args.opened.now in
    found (program_of o.program.now) (map recorded o.view.events.items) c.args.text.now (asked c.in_ok-question.question) c.resolved.result c.in_ok-question.ensures c.resolved.ensures.event

pub returns-in_err-question-clause-found : goal.returns-in_err-question-clause-found
returns-in_err-question-clause-found c =
    let o = c.args.opened.now in
    let p = program_of o.program.now in
    let rs = map recorded o.view.events.items in
    let left = err_from_is_err_and c.from_residual.result c.from_residual.ensures.1 in
    subst (FindsAsked p rs c.args.text.now) (sym (left.1 ∙ ap Err left.2)) (unread p rs c.args.text.now c.in_err-question.field-0.0 c.in_err-question.ensures)
