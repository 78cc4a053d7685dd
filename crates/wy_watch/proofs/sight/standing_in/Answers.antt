-- The record that was read is that of the frame.
use Rattle.std.proofs.Common.{◌∙◌, sym, ap}
use Rattle.wy_event.specs.Record.{recorded}
use Rattle.wy_kernel.specs.Parts.{program_of}
use Rattle.wy_travel.proofs.Reading.{told_record}
use Rattle.wy_watch.specs.Sight.{standing_of}
use Rattle.wy_watch.proofs.sight.standing_in.Goals as goal

pub returns-clause-standing : goal.returns-clause-standing
returns-clause-standing g c = λ rs is.
    let begun = c.in_ok-begun.begun.now in
    let at = told_record (g.V.EventView.tells c.args.view.now).records rs c.args.frame (recorded begun) is c.in_ok-begun.ensures.record in
    c.standing_of.ensures.standing ∙ sym (ap (standing_of (program_of c.args.program.now) c.args.frame) at)
