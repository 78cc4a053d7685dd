use Rattle.std.proofs.Common.{◌∙◌, List, map, refl, subst}
use Rattle.wy_event.specs.Record.{recorded}
use Rattle.wy_event.specs.declared.record.Event.{Event}
use Rattle.wy_fitting.specs.Fits.{AllFit}
use Rattle.wy_reply.proofs.Anew.{held_whole, line_of, migrated, of_events}
use Rattle.wy_reply.specs.Recordings.{spelling}
use Rattle.wy_reply.proofs.migrating.answer_to_migration.Goals as goal

pub returns-in-Ok-clause-migrates : goal.returns-in-Ok-clause-migrates
returns-in-Ok-clause-migrates g c =
    let fit = subst (λ (z : List Event). AllFit (map recorded z)) c.as_slice.ensures c.events_fit.ensures in
    let whole = of_events (spelling g.R.Recorder.opening g.R.Recorder.frame g.R.Recorder.closing) c.args.trace c.into_vec.result.items _ _ c.into_vec.ensures (c.in-Ok.ensures.mirrors (map recorded c.into_vec.result.items) refl) in
    migrated _ c.args.trace _ _ _ _ c.done.result (held_whole _ c.args.trace _ _ fit c.end_fits.ensures whole) c.in-Ok.ensures.faults c.done.ensures.status
    (c.done.ensures.text ∙ c.in_ok-migrated_line-in-Ok.ensures ∙ line_of c.args.trace c.as_slice-count.result.now c.as_slice-count.ensures)
