use Rattle.wy_reply.proofs.Tellings.{told_scope}
use Rattle.wy_reply.proofs.viewed.answer_to_scope.Goals as goal

pub returns-clause-due : goal.returns-clause-due
returns-clause-due g c = λ seal t is.
    told_scope c.args.opened.now.program.now seal t c.args.statement.now c.args.call c.scope_text-told.result _ (c.scope_text-told.ensures.told _ is.records) c.answer_in_call.ensures.says
