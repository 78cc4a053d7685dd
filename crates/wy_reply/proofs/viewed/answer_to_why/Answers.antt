use Rattle.wy_telling.specs.Why.{why_text}
use Rattle.wy_reply.specs.Tellings.{Why, why}
use Rattle.wy_reply.proofs.Tellings.{told_answer}
use Rattle.wy_reply.proofs.viewed.answer_to_why.Goals as goal

pub returns-clause-due : goal.returns-clause-due
returns-clause-due g c = λ seal t is.
    let p = c.args.opened.now.program.now in
    let question = c.args.question.now in
    told_answer why_text p seal t question (Why question) (λ a known. why question a known) c.why_text-told.result _ (c.why_text-told.ensures.told _ is.records) c.answer_to_question.ensures.says
