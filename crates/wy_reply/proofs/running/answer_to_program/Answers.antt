use Rattle.std.proofs.Common.{◌∙◌}
use Rattle.wy_reply.proofs.Reports.{reported}
use Rattle.wy_reply.proofs.running.answer_to_program.Goals as goal

pub returns-clause-text : goal.returns-clause-text
returns-clause-text c = c.done.ensures.text ∙ c.in_ok-text.ensures ∙ reported _ _ _ _ c.in-Ok.ended c.in-Ok.ensures.recorded.end
