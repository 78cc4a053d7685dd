use Rattle.wy_top.proofs.Replies.{run_due, error_due}
use Rattle.wy_top.proofs.source.run_source.Goals as goal

pub returns-in-Ok-clause-due : goal.returns-in-Ok-clause-due
returns-in-Ok-clause-due c = run_due _ _ c.in-Ok.typed.program c.answer_to_program.result c.in-Ok.ensures.program c.answer_to_program.ensures.status c.answer_to_program.ensures.text

pub returns-in-Err-clause-due : goal.returns-in-Err-clause-due
returns-in-Err-clause-due c = error_due _ _ c.in-Err.error c.answer_to_error.result c.in-Err.ensures.refused c.answer_to_error.ensures
