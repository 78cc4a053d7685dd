use Rattle.std.proofs.Common.{map, take}
use Rattle.wy_event.specs.Record.{recorded}
use Rattle.wy_fitting.specs.Fits.{AllFit}
use Rattle.wy_frames.specs.Progress.{event_in}
use Rattle.wy_page.proofs.opening.each_fits.Given as goal

abbrev pub invariant-loop-one : goal.invariant-loop-one
invariant-loop-one l = AllFit (map recorded (map event_in (take l.one-index l.placed)))
