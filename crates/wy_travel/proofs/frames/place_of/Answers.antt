-- The record that was read is that of the event.
use Rattle.std.specs.Prelude.{slice_get}
use Rattle.wy_event.specs.Record.{recorded}
use Rattle.wy_travel.proofs.Bodies.{frame_below, frame_there}
use Rattle.wy_travel.proofs.Reading.{told_record}
use Rattle.wy_travel.proofs.frames.place_of.Goals as goal

pub returns-clause-frame : goal.returns-clause-frame
returns-clause-frame g c = λ rs is.
    let event = c.in_ok-event.event.now in
    frame_there event (slice_get rs c.args.number) (told_record (g.V.EventView.tells c.args.view.now).records rs c.args.number (recorded event) is c.in_ok-event.ensures.record)

pub returns-clause-below : goal.returns-clause-below
returns-clause-below g c = frame_below c.in_ok-event.event.now c.args.number c.in_ok-event.ensures.refers
