use Rattle.std.proofs.Common.{◌++◌, ◌∙◌, ap, sym}
use Rattle.wy_event.specs.Record.{recorded}
use Rattle.wy_meaning.specs.World.{units_in}
use Rattle.wy_value.specs.Encoding.{utf8_of}
use Rattle.wy_telling.proofs.Looks.{told_record}
use Rattle.wy_telling.proofs.look.put_text_at.Goals as goal

pub returns-clause-text : goal.returns-clause-text
unfolding recorded units_in
returns-clause-text g c = λ rs is.
    let at = told_record (g.V.EventView.tells c.args.view.now).records rs c.args.n (recorded c.in_ok-event.event.now) is c.in_ok-event.ensures.record in
    c.in_ok-extend_from_slice.ensures.items
    ∙ ap (λ l. c.args.bytes.now.items ++ l) (c.as_slice-2.ensures.value ∙ c.in_ok-own.ensures ∙ ap utf8_of (c.as_slice.ensures ∙ sym (ap units_in at)))
