use Rattle.wy_top.proofs.RunAnswers.{file_answered, lack_answered}
use Rattle.wy_top.proofs.AnswerLemmas.{trace_answers, trace_lack}
use Rattle.wy_top.proofs.answer.answer_by_reading.Goals as goal

pub returns-in-Ok-clause-due : goal.returns-in-Ok-clause-due
returns-in-Ok-clause-due g c = λ k.
    trace_answers _ _ _ c.in-Ok.bytes _ _ _ k c.answer_to_bytes.result c.in-Ok.ensures.content c.in-Ok.ensures.fault c.as_slice.ensures.value c.answer_to_bytes.ensures.due c.answer_to_bytes.ensures.settled

pub returns-in-Err-clause-due : goal.returns-in-Err-clause-due
returns-in-Err-clause-due g c = λ k. trace_lack _ _ _ c.in-Err.error _ _ k c.answer_to_lack.result c.in-Err.ensures.content c.in-Err.ensures.fault c.answer_to_lack.ensures

pub returns-in-Ok-clause-by_run : goal.returns-in-Ok-clause-by_run
returns-in-Ok-clause-by_run g c = file_answered _ _ _ c.in-Ok.bytes _ c.answer_to_bytes.result c.in-Ok.ensures.content c.as_slice.ensures.value c.answer_to_bytes.ensures.by_run

pub returns-in-Err-clause-by_run : goal.returns-in-Err-clause-by_run
returns-in-Err-clause-by_run g c = lack_answered _ _ _ c.in-Err.error c.answer_to_lack.result c.answer_to_lack.ensures
