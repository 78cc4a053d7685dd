use Rattle.wy_top.proofs.Certified.{check_answers, check_lack}
use Rattle.wy_top.proofs.checking.answer_to_check.Goals as goal

pub returns-in-Ok-clause-due : goal.returns-in-Ok-clause-due
returns-in-Ok-clause-due g c = λ k.
    check_answers _ _ _ c.in-Ok.bytes _ _ _ c.check_over.result c.in-Ok.ensures.content c.as_slice.ensures.value (rw (c.in-Ok.ensures.files_stay, c.in-Ok.ensures.fault) at c.check_over.ensures.due k)

pub returns-in-Err-clause-due : goal.returns-in-Err-clause-due
returns-in-Err-clause-due g c = λ k. check_lack _ _ _ c.in-Err.error _ _ k c.answer_to_lack.result c.in-Err.ensures.content c.in-Err.ensures.fault c.answer_to_lack.ensures
