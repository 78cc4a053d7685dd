-- the lines so far, and what is left to put
use Rattle.std.proofs.Common.{◌≡◌, ◌++◌, ◌+◌, drop, map}
use Rattle.std.specs.List.{flat_map}
use Rattle.wy_fold.specs.Groups.{IsTable}
use Rattle.wy_fold.specs.Places.{Places}
use Rattle.wy_report.specs.Page.{line_rows}
use Rattle.wy_report.specs.Pieces.{written}
use Rattle.wy_report.proofs.line.put_line_rows.Given as goal

abbrev pub invariant-loop-i : goal.invariant-loop-i
invariant-loop-i l = (at : Places) → IsTable at l.all → IsTable at l.flow
    → l.out.items ++ flat_map written (line_rows at l.all.events.now l.flow.events.now (l.i + 1) (drop l.i (map (λ x. x.now) l.lines)))
    ≡ l.initial.out.items ++ flat_map written (line_rows at l.all.events.now l.flow.events.now 1 (map (λ x. x.now) l.lines))
