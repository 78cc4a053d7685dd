use Rattle.std.proofs.Common.{◌≡◌, sym, subst, ap, ◌∙◌}
use Rattle.wy_event.specs.Record.{recorded}
use Rattle.wy_why.proofs.Walking.{told_record}
use Rattle.wy_check.specs.Asking.{AreAsked, uses_at, uses_of}
use Rattle.wy_check.proofs.asking.ask_event.Goals as goal

pub returns-clause-asked : goal.returns-clause-asked
unfolding recorded
returns-clause-asked g c = λ rs is.
    let e = recorded c.in_ok-event.event.now in
    let there = told_record (g.V.EventView.tells c.args.view.now).records rs c.args.n e is c.in_ok-event.ensures.record in
    subst (AreAsked c.ask_uses.new.history) (c.as_slice.ensures ∙ sym (ap uses_of there)) c.in_ok-ask_uses.ensures.asked
