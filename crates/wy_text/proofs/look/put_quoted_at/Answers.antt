use Rattle.std.proofs.Common.{◌++◌, sym, ap, ◌∙◌}
use Rattle.wy_event.specs.Record.{recorded}
use Rattle.wy_text.specs.Values.{quoted, units_of}
use Rattle.wy_text.proofs.Looks.{told_record}
use Rattle.wy_text.proofs.look.put_quoted_at.Goals as goal

pub returns-clause-text : goal.returns-clause-text
unfolding recorded units_of
returns-clause-text g c = λ rs is.
    let at = told_record (g.V.EventView.tells c.args.view.now).records rs c.args.n (recorded c.in_ok-event.event.now) is c.in_ok-event.ensures.record in
    c.in_ok-put_quoted.ensures ∙ ap (λ u. c.args.out.now.items ++ quoted u) (c.as_slice.ensures ∙ sym (ap units_of at))
