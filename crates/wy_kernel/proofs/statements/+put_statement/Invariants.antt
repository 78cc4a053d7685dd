-- What was found, and what is left of the form, is what is to be found; and what is left is no more than stands in the statement.
use Rattle.std.proofs.Common.{◌≡◌, ◌≤◌, ◌++◌, length}
use Rattle.std.specs.List.{flat_map}
use Rattle.wy_kernel.specs.Statements.{statements, statements_within}
use Rattle.wy_kernel.specs.Substatements.{statements_seen, to_come}
use Rattle.wy_kernel.specs.View.{act, statement}
use Rattle.wy_kernel.proofs.statements.+put_statement.Given as goal

abbrev pub invariant-loop-inner : goal.invariant-loop-inner
invariant-loop-inner l =
    let left = flat_map statements (to_come l.inner-iterator) in
    (statements_seen l.out.items ++ left ≡ statements_seen l.fn.out.items ++ statements (statement l.s))
    × (length left ≤ length (statements_within (act l.s.form)))

abbrev pub decreases-put_statement : goal.decreases-put_statement
decreases-put_statement l = length (statements (statement l.s.now))
