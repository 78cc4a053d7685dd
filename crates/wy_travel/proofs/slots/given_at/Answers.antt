-- The record that was read is that of the event.
use Rattle.std.proofs.Common.{◌∙◌}
use Rattle.wy_event.specs.Record.{recorded}
use Rattle.wy_kernel.specs.Parts.{program_of}
use Rattle.wy_travel.proofs.Reading.{given_there, told_record}
use Rattle.wy_travel.proofs.slots.given_at.Goals as goal

pub returns-clause-given : goal.returns-clause-given
returns-clause-given g c = λ rs is.
    let e = recorded c.in_ok-event.event.now in
    let at = told_record (g.V.EventView.tells c.args.view.now).records rs c.args.number e is c.in_ok-event.ensures.record in
    c.given_by.ensures.given ∙ given_there (program_of c.args.program.now) rs c.args.slot c.args.number e at

pub returns-clause-below : goal.returns-clause-below
returns-clause-below g c = c.given_by.ensures.below c.args.number c.in_ok-event.ensures.refers
