use Rattle.wy_session.proofs.Parts.{over_answers, put_answers}
use Rattle.wy_session.proofs.Viewing.{put_counts}
use Rattle.wy_session.proofs.line.answer.Goals as goal

pub returns-in-Some-clause-answers : goal.returns-in-Some-clause-answers
returns-in-Some-clause-answers g c = put_answers (g.R.Respond.stands c.args.responder.now) (g.R.Respond.stands c.reply.new.self) _ _ _ _ _ _ c.put.result
    (λ x s at. rw (c.in-Some.is, ← c.as_slice.ensures.value) at c.in_ok-text.ensures.said x s at) c.put.ensures

pub returns-in-Some-clause-counts : goal.returns-in-Some-clause-counts
returns-in-Some-clause-counts g c = put_counts _ _ _ _ _ c.put.result _ _ c.put.ensures c.in_ok-text.ensures.answers

pub returns-in-None-clause-answers : goal.returns-in-None-clause-answers
returns-in-None-clause-answers g c = over_answers (g.R.Respond.stands c.args.responder.now) (g.R.Respond.stands c.reply.new.self) _ _ _
    (λ x s at. rw (c.in-None.is) at c.in_ok-text.ensures.said x s at)
