-- What is left to search has the answer, and is no more than what stands in the statement.
use Rattle.std.proofs.Common.{◌≡◌, ◌≤◌, find, length}
use Rattle.std.specs.List.{flat_map}
use Rattle.wy_kernel.specs.Statements.{has_number, statements, statements_within}
use Rattle.wy_kernel.specs.Substatements.{to_come}
use Rattle.wy_kernel.specs.View.{act, statement}
use Rattle.wy_kernel.proofs.search.+find_in.Given as goal

abbrev pub invariant-loop-inner : goal.invariant-loop-inner
invariant-loop-inner l =
    let within = statements_within (act l.s.form) in
    let left = flat_map statements (to_come l.inner-iterator) in
    (find (has_number l.n) within ≡ find (has_number l.n) left) × (length left ≤ length within)

abbrev pub decreases-find_in : goal.decreases-find_in
decreases-find_in l = length (statements (statement l.s.now))
