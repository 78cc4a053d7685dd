use Rattle.std.proofs.Common.{filter, refl, sym, ap₂, ◌∙◌}
use Rattle.wy_cert.specs.declared.certificate.Listed.{Listed}
use Rattle.wy_cert.specs.Spelling.{events}
use Rattle.wy_check.specs.Marks.{mark_of}
use Rattle.wy_check.proofs.Flows.{asked_fits, events_filtered, flow_is, if_ok}
use Rattle.wy_check.proofs.flow.data_of.Goals as goal

pub returns : goal.returns
returns c = λ owner rs whole.
    let cert = c.args.certificate.now in
    let marks = c.in_ok-marks.marks.items in
    let same = c.in_ok-marks.ensures owner rs cert (sym c.as_slice-lines.ensures) refl whole in
    if_ok c.marked_events.result (λ flow is. is ∙ ap₂ (λ ms ls. events (filter (λ (l : Listed). mark_of ms l.event) ls)) c.deref.ensures.value c.as_slice-lines.ensures
    ∙ events_filtered (mark_of marks) cert.listed ∙ flow_is owner rs cert whole marks same (asked_fits owner rs cert whole)) c.marked_events.ensures
