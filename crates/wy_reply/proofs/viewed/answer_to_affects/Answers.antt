use Rattle.wy_telling.specs.Affects.{affects_text}
use Rattle.wy_reply.specs.Tellings.{Affects, affects}
use Rattle.wy_reply.proofs.Tellings.{told_answer}
use Rattle.wy_reply.proofs.viewed.answer_to_affects.Goals as goal

pub returns-clause-due : goal.returns-clause-due
returns-clause-due g c = λ seal t is.
    let p = c.args.opened.now.program.now in
    let question = c.args.question.now in
    told_answer affects_text p seal t question (Affects question) (λ a known. affects question a known) c.affects_text-told.result _ (c.affects_text-told.ensures.told _ is.records) c.answer_to_question.ensures.says
