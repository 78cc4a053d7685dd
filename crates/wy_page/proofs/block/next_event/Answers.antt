-- An event is read as the one that bytes begin with, and a blank one where there is none.
use Rattle.std.proofs.Common.{sym, subst}
use Rattle.wy_event.specs.declared.record.Event.{Event}
use Rattle.wy_event.specs.Record.{recorded}
use Rattle.wy_frame_reading.specs.Begins.{BeginsWithEvent}
use Rattle.wy_view.specs.References.{RefersBelow}
use Rattle.wy_page.proofs.Frames.{blank_below, next_behind, next_none}
use Rattle.wy_page.proofs.block.next_event.Goals as goal

pub returns-in-Some-clause-read : goal.returns-in-Some-clause-read
returns-in-Some-clause-read c = next_behind c.args.version c.args.n c.args.bytes.now c.in-Some.event c.in-Some.size (subst (BeginsWithEvent c.args.version c.args.n c.args.bytes.now) c.in-Some.is c.in_ok-event.ensures)

pub returns-in-None-clause-refers : goal.returns-in-None-clause-refers
returns-in-None-clause-refers c = subst (λ (x : Event). RefersBelow c.args.n (recorded x)) (sym c.blank_event.ensures) (blank_below c.args.n)

pub returns-in-None-clause-read : goal.returns-in-None-clause-read
returns-in-None-clause-read c = next_none c.args.version c.args.n c.args.bytes.now c.blank_event.result c.args.bytes.now (subst (BeginsWithEvent c.args.version c.args.n c.args.bytes.now) c.in-None.is c.in_ok-event.ensures)
