use Rattle.wy_reply.specs.Tellings.{cut, damaged, bad_seal}
use Rattle.wy_reply.proofs.Tellings.{refuses_line}
use Rattle.wy_reply.proofs.telling.answer_to_trace_error.Goals as goal

pub returns-in-Cut : goal.returns-in-Cut
returns-in-Cut c = refuses_line _ _ _ _ c.in-Cut.is (cut c.in-Cut.byte) c.refused.ensures

pub returns-in-Damaged : goal.returns-in-Damaged
returns-in-Damaged c = refuses_line _ _ _ _ c.in-Damaged.is (damaged c.in-Damaged.byte c.in-Damaged.rule) c.refused-in-Damaged.ensures

pub returns-in-BadSeal : goal.returns-in-BadSeal
returns-in-BadSeal c = refuses_line _ _ _ _ c.in-BadSeal.is bad_seal c.refused-in-BadSeal.ensures
