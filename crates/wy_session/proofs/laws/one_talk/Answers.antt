use Rattle.wy_session.proofs.OneTalk.{one_talk_of}
use Rattle.wy_session.proofs.Saying.{one_said}
use Rattle.wy_session.proofs.laws.one_talk.Goals as goal

pub returns : goal.returns
returns c = λ x. one_talk_of x (one_said c.one_reply.ensures x)
