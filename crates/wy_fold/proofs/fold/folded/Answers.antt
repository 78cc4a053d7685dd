use Rattle.std.proofs.Common.{◌∙◌, ap, map, subst}
use Rattle.wy_event.specs.Record.{recorded}
use Rattle.wy_fold.specs.Groups.{IsTable, groups}
use Rattle.wy_fold.specs.Places.{line_at}
use Rattle.wy_fold.proofs.fold.folded.Goals as goal

pub returns : goal.returns
returns c =
    let o = c.args.opened.now in
    let lines = o.program.now.lines.items in
    let seen = ap (map recorded) c.as_slice-records.ensures.value in
    let listed = ap (λ s. s.now) c.in_ok-all.ensures.events in
    let flowing = ap (λ s. s.now) c.in_ok-flow.ensures.events in
    record {
      texts = c.in_ok-lines.ensures;
      tabled = subst (λ r. IsTable (line_at lines r) c.in_ok-all.all) seen c.in_ok-all.ensures.table;
      data_tabled = subst (λ r. IsTable (line_at lines r) c.in_ok-flow.flow) seen c.in_ok-flow.ensures.table;
      events = listed;
      data_events = flowing;
      found = c.in_ok-found.ensures ∙ ap (λ r. groups (line_at lines r) c.in_ok-all.all.events.now c.in_ok-flow.flow.events.now) seen
          ∙ ap (λ a. groups (line_at lines (map recorded o.view.events.items)) a c.in_ok-flow.flow.events.now) listed
          ∙ ap (λ f. groups (line_at lines (map recorded o.view.events.items)) c.args.all.now f) flowing;
    }
