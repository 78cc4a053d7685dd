use Rattle.std.proofs.Common.{◌∙◌, ap, sym}
use Rattle.std.specs.Prelude.{option_copied}
use Rattle.wy_session.proofs.Replying.{answer_replied}
use Rattle.wy_session.proofs.desk.reply_lines.Goals as goal

pub returns-in-Some-clause-text : goal.returns-in-Some-clause-text
returns-in-Some-clause-text g c = λ x scene all asked.
    answer_replied x _ c.args.opened.now c.args.explorer.now c.args.reply.now c.in-Answer.field-0 c.in-Some.answered.now c.answer_lines.result c.requires.opened scene all
    (sym c.answer.ensures ∙ ap option_copied c.in-Some.is) c.in-Answer.is asked (λ by_data flow. c.answer_lines.ensures.lines x.records scene.records by_data flow)
