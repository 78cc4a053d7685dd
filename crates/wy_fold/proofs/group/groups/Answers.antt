use Rattle.std.proofs.Common.{◌≡◌, ◌<◌, ◌∙◌, ap, get_or, length, map, subst, sym}
use Rattle.std.specs.Prelude.{◌==◌, filter, not}
use Rattle.std.proofs.lemmas.List.{take_all}
use Rattle.wy_event.specs.Record.{recorded}
use Rattle.wy_fold.specs.Groups.{group_of}
use Rattle.wy_fold.specs.Places.{is_last, line_at, on_line}
use Rattle.wy_fold.proofs.Grouping.{is_end, no_more_group, one_more_group, same_group, some_pass}
use Rattle.wy_fold.proofs.Tables.{row_read}
use Rattle.wy_fold.proofs.group.groups.Goals as goal
use Rattle.wy_fold.proofs.group.groups.Goals.{then-is_last+in_ok-push, else-is_last}

pub loop-event-preserved : goal.loop-event-preserved
loop-event-preserved c =
    let at = line_at c.args.program.now.lines.items (map recorded c.args.records.now) in
    let all = c.args.all.now.events.now in
    let flow = c.args.flow.now.events.now in
    let i = c.loop-event.event-index in
    let e = get_or all i 0 in
    let line : c.line_at-line.result ≡ at e = c.line_at-line.ensures in
    let inside = subst (λ k. k < length c.args.all.now.rows.items) (sym line) (c.requires.all.inside e) in
    let in_flow = subst (λ k. k < length c.args.flow.now.rows.items) (sym line) (c.requires.flow.inside e) in
    let here : c.as_slice-here.result.now ≡ on_line at c.line_at-line.result all =
    c.as_slice-here.ensures.value ∙ row_read c.args.all.now c.line_at-line.result c.index.result.now inside c.index.ensures ∙ c.requires.all.each c.line_at-line.result in
    let end : c.is_last.result ≡ is_end at all e = c.is_last.ensures ∙ ap (λ xs. is_last xs e) (here ∙ ap (λ k. on_line at k all) line) in
    elim c.if-is_last.branch [
      | then-is_last+in_ok-push w ↦
          let there = row_read c.args.flow.now c.line_at-line.result w.index-then-is_last.result.now in_flow w.index-then-is_last.ensures ∙ c.requires.flow.each c.line_at-line.result in
          rw w.found-is (one_more_group at all flow i c.loop-event.found.items w.push.new.self.items _ c.loop-event-test.true c.loop-event.invariant (sym end ∙ w.if-is_last.true)
          (same_group at all flow _ e _ _ line (ap length here) (ap not (w.is_empty.ensures ∙ ap (λ n. n == 0) w.index-then-is_last.result.now.ok.0 ∙ ap (λ xs. length xs == 0) there) ∙ sym (some_pass (λ n. at n == c.line_at-line.result) flow))) w.in_ok-push.ensures.items)
      | else-is_last w ↦ rw w.found-is (no_more_group at all flow i c.loop-event.found.items c.loop-event-test.true c.loop-event.invariant (sym end ∙ w.if-is_last.false))
    ]

pub returns : goal.returns
returns c =
    let at = line_at c.args.program.now.lines.items (map recorded c.args.records.now) in
    let all = c.args.all.now.events.now in
    c.loop-event.invariant ∙ ap (λ xs. map (group_of at all c.args.flow.now.events.now) (filter (is_end at all) xs)) (take_all c.loop-event.event-index all c.loop-event-test.false)
