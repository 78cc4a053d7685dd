use Rattle.wy_reply.proofs.Tellings.{told_verdict}
use Rattle.wy_reply.proofs.telling.answer_to_check.Goals as goal

pub returns-clause-due : goal.returns-clause-due
returns-clause-due c =
    told_verdict c.args.program.now c.args.seal.now c.args.trace c.args.certificate.now c.verdict_on-verdict.result _ (rw (c.into_vec.ensures) at c.verdict_on-verdict.ensures.judges) c.answer_to_verdict.ensures.says
