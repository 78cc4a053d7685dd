use Rattle.std.proofs.Common.{◌∙◌, ◌++◌, ap, map}
use Rattle.std.specs.List.{flat_map}
use Rattle.std.proofs.lemmas.Result.{on_ok_weaker}
use Rattle.wy_event.specs.Record.{recorded}
use Rattle.wy_fold.specs.Places.{line_at}
use Rattle.wy_report.specs.Page.{line_rows}
use Rattle.wy_report.specs.Pieces.{written}
use Rattle.wy_report.proofs.report.put_source.Goals as goal

pub returns : goal.returns
returns c =
    let out = c.args.out.now.items in
    let at = line_at c.args.program.now.lines.items (map recorded c.args.records.now) in
    let texts = map (λ l. l.now) c.args.lines.now in
    let answer = c.args.answer.now in
    on_ok_weaker c.put_line_rows.result (λ put. put
    ∙ ap (λ x. out ++ flat_map written (line_rows at x c.in_ok-flow.flow.events.now 1 texts)) (ap (λ s. s.now) c.in_ok-all.ensures.events ∙ c.as_slice.ensures.value)
    ∙ ap (λ x. out ++ flat_map written (line_rows at answer.all.items x 1 texts)) (ap (λ s. s.now) c.in_ok-flow.ensures.events ∙ c.as_slice-2.ensures.value))
    (c.put_line_rows.ensures at c.in_ok-all.ensures.table c.in_ok-flow.ensures.table)
