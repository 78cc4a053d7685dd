use Rattle.std.proofs.Common.{◌∙◌, ap, arith, refl, ◌+◌}
use Rattle.std.specs.Io.BufRead.{strip_last}
use Rattle.wy_session.proofs.Stopping.{answer_leads, answer_stops, limit_long, long_input_stops, long_line_stops, long_result, within_long}
use Rattle.wy_view.proofs.Views.{keeps_itself}
use Rattle.wy_session.proofs.Viewing.{counts_err, ended_counts}
use Rattle.wy_session.proofs.line.OpenLine.end.Goals as goal

pub returns-then-len-gt-MOST_IN_LINE-clause-reads :
    goal.returns-then-len-gt-MOST_IN_LINE-clause-reads
returns-then-len-gt-MOST_IN_LINE-clause-reads g c =
    long_line_stops (g.R.Respond.stands c.args.responder.now) (g.R.Respond.stands c.args.responder.now) _ _ c.args.self.now _ _ _ _ c.end_with.result c.requires.unended (omega (arith, c.if-len-gt-MOST_IN_LINE.true, c.len.ensures)) c.end_with.ensures

pub returns-then-behind-gt-MOST_IN_ALL-clause-reads :
    goal.returns-then-behind-gt-MOST_IN_ALL-clause-reads
returns-then-behind-gt-MOST_IN_ALL-clause-reads g c =
    long_input_stops (g.R.Respond.stands c.args.responder.now) (g.R.Respond.stands c.args.responder.now) _ _ c.args.self.now _ _ _ _ c.end_with-then-behind-gt-MOST_IN_ALL.result c.requires.unended (omega (arith, c.if-len-gt-MOST_IN_LINE.false, c.len.ensures)) (omega (arith, c.if-behind-gt-MOST_IN_ALL.true, c.len-2.ensures)) c.end_with-then-behind-gt-MOST_IN_ALL.ensures

pub returns-in_err-answer-clause-reads : goal.returns-in_err-answer-clause-reads
returns-in_err-answer-clause-reads g c =
    answer_stops (g.R.Respond.stands c.args.responder.now) (g.R.Respond.stands c.answer.new.responder) _ _ _ c.args.self.now _ _ _ _ c.in_err-answer.field-0.0 c.from_residual.result c.requires.unended (omega (arith, c.if-len-gt-MOST_IN_LINE.false, c.len.ensures)) (omega (arith, c.if-behind-gt-MOST_IN_ALL.false, c.len-2.ensures))
    (c.without_return.ensures ∙ ap (strip_last 13) c.as_slice.ensures.value) (grind (arith, c.from_residual.ensures)) c.in_err-answer.ensures.answers

pub returns-clause-reads : goal.returns-clause-reads
returns-clause-reads g c = answer_leads (g.R.Respond.stands c.args.responder.now) (g.R.Respond.stands c.answer.new.responder) _ _ (record { bytes = c.clear.new.self; before = c.args.self.now.before + c.len-2.result + 1 }) _ _ _ _
    c.requires.unended (omega (arith, c.if-len-gt-MOST_IN_LINE.false, c.len.ensures)) (omega (arith, c.if-behind-gt-MOST_IN_ALL.false, c.len-2.ensures)) c.clear.ensures.items (omega (arith, c.len-2.ensures))
    (rw (← c.as_slice.ensures.value, ← c.without_return.ensures) c.in_ok-answer.ensures.answers)

pub returns-then-len-gt-MOST_IN_LINE-clause-long : goal.returns-then-len-gt-MOST_IN_LINE-clause-long
returns-then-len-gt-MOST_IN_LINE-clause-long g c =
    limit_long _ _ c.end_with.result _ _ _ _ _ (omega (arith, c.if-len-gt-MOST_IN_LINE.true, c.len.ensures)) c.end_with.ensures

pub returns-then-behind-gt-MOST_IN_ALL-clause-long : goal.returns-then-behind-gt-MOST_IN_ALL-clause-long
returns-then-behind-gt-MOST_IN_ALL-clause-long g c =
    limit_long _ _ c.end_with-then-behind-gt-MOST_IN_ALL.result _ _ _ _ _ (omega (arith, c.if-behind-gt-MOST_IN_ALL.true, c.len-2.ensures)) c.end_with-then-behind-gt-MOST_IN_ALL.ensures

pub returns-in_err-answer-clause-long : goal.returns-in_err-answer-clause-long
returns-in_err-answer-clause-long g c =
    long_result c.from_residual.result c.in_err-answer.field-0.0 _ (grind (arith, c.from_residual.ensures)) (within_long c.in_err-answer.field-0.0 _ c.in_err-answer.ensures.answers.4)

pub returns-then-len-gt-MOST_IN_LINE-clause-keeps : goal.returns-then-len-gt-MOST_IN_LINE-clause-keeps
returns-then-len-gt-MOST_IN_LINE-clause-keeps g c = keeps_itself (g.R.Respond.tells c.args.responder.now)

pub returns-then-behind-gt-MOST_IN_ALL-clause-keeps : goal.returns-then-behind-gt-MOST_IN_ALL-clause-keeps
returns-then-behind-gt-MOST_IN_ALL-clause-keeps g c = keeps_itself (g.R.Respond.tells c.args.responder.now)

pub returns-then-len-gt-MOST_IN_LINE-clause-counts : goal.returns-then-len-gt-MOST_IN_LINE-clause-counts
returns-then-len-gt-MOST_IN_LINE-clause-counts g c = ended_counts _ _ _ _ _ _ c.end_with.result _ _ c.end_with.ensures refl refl

pub returns-then-behind-gt-MOST_IN_ALL-clause-counts : goal.returns-then-behind-gt-MOST_IN_ALL-clause-counts
returns-then-behind-gt-MOST_IN_ALL-clause-counts g c = ended_counts _ _ _ _ _ _ c.end_with-then-behind-gt-MOST_IN_ALL.result _ _ c.end_with-then-behind-gt-MOST_IN_ALL.ensures refl refl

pub returns-in_err-answer-clause-counts : goal.returns-in_err-answer-clause-counts
returns-in_err-answer-clause-counts g c =
    counts_err c.from_residual.result c.in_err-answer.field-0.0 _ _ (grind (arith, c.from_residual.ensures)) c.in_err-answer.ensures.counts
