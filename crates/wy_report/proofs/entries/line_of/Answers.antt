use Rattle.std.proofs.Common.{◌≡◌, ◌∙◌, Some, ap, subst, sym}
use Rattle.std.specs.Prelude.{IfSome, slice_get}
use Rattle.wy_event.specs.Record.{recorded}
use Rattle.wy_fold.specs.Places.{line_at, line_of_record}
use Rattle.wy_report.proofs.entries.line_of.Goals as goal

pub returns-clause-line : goal.returns-clause-line
unfolding line_at recorded
returns-clause-line g c = λ rs is.
    let e = recorded c.in_ok-record.record.now in
    let there = subst (λ o. IfSome o (λ all. slice_get all c.args.event ≡ Some e)) is c.in_ok-record.ensures.record in
    c.line_of_site.ensures ∙ sym (ap (line_of_record c.args.program.now.lines.items) there)
