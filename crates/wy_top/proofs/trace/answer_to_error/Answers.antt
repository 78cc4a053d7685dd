use Rattle.wy_top.proofs.ErrorDues.{trace_refused}
use Rattle.wy_top.proofs.trace.answer_to_error.Goals as goal

pub returns-in-Refused : goal.returns-in-Refused
returns-in-Refused c = trace_refused c.args.error c.in-Refused.refusal c.refused.result c.in-Refused.is c.refused.ensures
