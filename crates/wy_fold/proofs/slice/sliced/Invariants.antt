-- the lines so far, and what is left to tell
use Rattle.std.proofs.Common.{◌≡◌, ◌++◌, ◌+◌, drop, map}
use Rattle.wy_fold.specs.Groups.{IsTable}
use Rattle.wy_fold.specs.Places.{Places}
use Rattle.wy_fold.specs.Shown.{sliced}
use Rattle.wy_fold.proofs.slice.sliced.Given as goal

abbrev pub invariant-loop-i : goal.invariant-loop-i
invariant-loop-i l = (at : Places) → IsTable at l.all → IsTable at l.flow
    → l.text.items ++ sliced at l.all.events.now l.flow.events.now (l.i + 1) (drop l.i (map (λ x. x.now) l.lines)) ≡ sliced at l.all.events.now l.flow.events.now 1 (map (λ x. x.now) l.lines)
