use Rattle.wy_top.proofs.Opened.{lacking_file, lacking_some, opened_in_file, opened_some}
use Rattle.wy_top.proofs.opening.open_trace.Goals as goal

pub returns-in-Ok-clause-opens : goal.returns-in-Ok-clause-opens
returns-in-Ok-clause-opens g c = opened_in_file _ _ c.in-Ok.bytes _ _ _ c.open_bytes.result c.in-Ok.ensures.content c.in-Ok.ensures.fault c.as_slice.ensures.value c.open_bytes.ensures.opens c.open_bytes.ensures.settled

pub returns-in-Ok-clause-some : goal.returns-in-Ok-clause-some
returns-in-Ok-clause-some g c = opened_some c.in-Ok.bytes _ c.open_bytes.result c.in-Ok.ensures.bound c.as_slice.ensures.value c.open_bytes.ensures.opens

pub returns-in_ok-answer_to_lack-in-Err-clause-opens : goal.returns-in_ok-answer_to_lack-in-Err-clause-opens
returns-in_ok-answer_to_lack-in-Err-clause-opens g c = lacking_file _ _ c.in-Err.error _ _ c.in_ok-answer_to_lack-in-Err.field-0 c.in-Err.ensures.content c.in-Err.ensures.fault c.in-Err.ensures.absent c.in-Err.ensures.too_long c.in_ok-answer_to_lack-in-Err.ensures

pub returns-in_ok-answer_to_lack-in-Err-clause-some : goal.returns-in_ok-answer_to_lack-in-Err-clause-some
returns-in_ok-answer_to_lack-in-Err-clause-some g c = lacking_some c.in-Err.error c.in_ok-answer_to_lack-in-Err.field-0 c.in_ok-answer_to_lack-in-Err.ensures
