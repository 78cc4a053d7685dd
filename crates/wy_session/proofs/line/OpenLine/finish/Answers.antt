use Rattle.std.proofs.Common.{◌∙◌, sym, refl, arith, eqb-true}
use Rattle.std.proofs.lemmas.Bool.{eqb-false}
use Rattle.wy_session.proofs.Finishing.{last_answered, last_stops, long_input_at_end, nothing_left}
use Rattle.wy_view.proofs.Views.{keeps_itself}
use Rattle.wy_session.proofs.Viewing.{ended_counts}
use Rattle.wy_session.proofs.line.OpenLine.finish.Goals as goal

pub returns-then-is_empty-clause-finishes : goal.returns-then-is_empty-clause-finishes
returns-then-is_empty-clause-finishes g c =
    nothing_left (g.R.Respond.stands c.args.responder.now) _ _ _ _ (sym c.args.self.now.bytes.ok.0 ∙ eqb-true _ 0 (sym c.is_empty.ensures ∙ c.if-is_empty.true))

pub returns-then-self-len-gt-MOST_IN_ALL-clause-finishes : goal.returns-then-self-len-gt-MOST_IN_ALL-clause-finishes
returns-then-self-len-gt-MOST_IN_ALL-clause-finishes g c =
    long_input_at_end (g.R.Respond.stands c.args.responder.now) _ c.args.self.now.bytes.items _ _ _ _ c.end_with.result (λ none. eqb-false _ 0 (sym c.is_empty.ensures ∙ c.if-is_empty.false) (c.args.self.now.bytes.ok.0 ∙ none)) c.requires.is_open.unended c.requires.is_open.short
    (omega (arith, c.if-self-len-gt-MOST_IN_ALL.true, c.len.ensures)) c.end_with.ensures

pub returns-in-Ok-clause-finishes : goal.returns-in-Ok-clause-finishes
returns-in-Ok-clause-finishes g c =
    last_answered (g.R.Respond.stands c.args.responder.now) (g.R.Respond.stands c.answer.new.responder) _ c.args.self.now.bytes.items c.as_slice.result.now _ _ _ _ (λ none. eqb-false _ 0 (sym c.is_empty.ensures ∙ c.if-is_empty.false) (c.args.self.now.bytes.ok.0 ∙ none)) c.requires.is_open.unended c.requires.is_open.short
    (omega (arith, c.if-self-len-gt-MOST_IN_ALL.false, c.len.ensures))
    c.as_slice.ensures.value c.in-Ok.ensures.answers

pub returns-in-Err-clause-finishes : goal.returns-in-Err-clause-finishes
returns-in-Err-clause-finishes g c =
    last_stops (g.R.Respond.stands c.args.responder.now) (g.R.Respond.stands c.answer.new.responder) _ c.args.self.now.bytes.items c.as_slice.result.now _ _ _ _ c.in-Err.ending (λ none. eqb-false _ 0 (sym c.is_empty.ensures ∙ c.if-is_empty.false) (c.args.self.now.bytes.ok.0 ∙ none)) c.requires.is_open.unended c.requires.is_open.short
    (omega (arith, c.if-self-len-gt-MOST_IN_ALL.false, c.len.ensures))
    c.as_slice.ensures.value c.in-Err.ensures.answers

pub returns-then-is_empty-clause-keeps : goal.returns-then-is_empty-clause-keeps
returns-then-is_empty-clause-keeps g c = keeps_itself (g.R.Respond.tells c.args.responder.now)

pub returns-then-self-len-gt-MOST_IN_ALL-clause-keeps : goal.returns-then-self-len-gt-MOST_IN_ALL-clause-keeps
returns-then-self-len-gt-MOST_IN_ALL-clause-keeps g c = keeps_itself (g.R.Respond.tells c.args.responder.now)

pub returns-then-self-len-gt-MOST_IN_ALL-clause-counts : goal.returns-then-self-len-gt-MOST_IN_ALL-clause-counts
returns-then-self-len-gt-MOST_IN_ALL-clause-counts g c = ended_counts _ _ _ _ _ _ c.end_with.result _ _ c.end_with.ensures refl refl
