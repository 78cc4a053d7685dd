use Rattle.wy_reply.proofs.Tellings.{told_certificate}
use Rattle.wy_reply.proofs.viewed.answer_to_certify.Goals as goal

pub returns-clause-due : goal.returns-clause-due
returns-clause-due g c = λ t is.
    told_certificate c.args.opened.now.program.now c.args.seal.now t c.args.question.now c.certificate_text-told.result _ (c.certificate_text-told.ensures.told _ is.records) c.answer_to_question.ensures.says
