-- The numbers of one event more fit.
use Rattle.std.proofs.Common.{List, map, subst}
use Rattle.std.proofs.lemmas.List.{take_all}
use Rattle.wy_event.specs.declared.record.Event.{Event}
use Rattle.wy_event.specs.Record.{recorded}
use Rattle.wy_fitting.specs.Fits.{AllFit}
use Rattle.wy_frames.specs.declared.stage.ReadEvent.{ReadEvent}
use Rattle.wy_frames.specs.Progress.{event_in}
use Rattle.wy_page.proofs.Taken.{fits_more}
use Rattle.wy_page.proofs.opening.each_fits.Goals as goal

pub loop-one-preserved : goal.loop-one-preserved
loop-one-preserved c = fits_more c.args.placed.now c.loop-one.one-index c.one-item.result c.loop-one-test.true c.one-item.is c.loop-one.invariant (subst (λ (l : List Event). AllFit (map recorded l)) c.from_ref.ensures.value c.events_fit.ensures)

pub returns : goal.returns
returns c = subst (λ (l : List ReadEvent). AllFit (map recorded (map event_in l))) (take_all c.loop-one.one-index c.args.placed.now c.loop-one-test.false) c.loop-one.invariant
