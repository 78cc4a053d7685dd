use Rattle.wy_reply.specs.Tellings.{DueUnder}
use Rattle.wy_top.proofs.Certified.{certificate_answers, certificate_lack}
use Rattle.wy_top.proofs.checking.check_under.Goals as goal

pub returns-in-Ok-clause-due : goal.returns-in-Ok-clause-due
returns-in-Ok-clause-due g c = λ k.
    certificate_answers _ _ (DueUnder c.args.program.now c.args.bytes.now) c.in-Ok.given _ _ _ k c.answer_to_trace.result c.in-Ok.ensures.content c.in-Ok.ensures.fault c.as_slice.ensures.value c.answer_to_trace.ensures.due c.answer_to_trace.ensures.settled

pub returns-in-Err-clause-due : goal.returns-in-Err-clause-due
returns-in-Err-clause-due g c = λ k.
    certificate_lack _ _ c.args.program.now c.args.bytes.now c.args.trace c.in-Err.error _ _ k c.answer_to_lack.result c.requires.decoded.reads c.in-Err.ensures.content c.in-Err.ensures.fault c.answer_to_lack.ensures
