use Rattle.wy_top.proofs.ErrorDues.{source_refused}
use Rattle.wy_top.proofs.source.answer_to_error.Goals as goal

pub returns-in-Refused : goal.returns-in-Refused
returns-in-Refused c = source_refused c.args.error c.in-Refused.refusal c.refused.result c.in-Refused.is c.refused.ensures
