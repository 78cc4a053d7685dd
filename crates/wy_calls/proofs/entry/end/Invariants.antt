use Rattle.std.proofs.lemmas.List.Filters.{FiltersInPlace}
use Rattle.wy_calls.specs.Layout.{outlasts}
use Rattle.wy_calls.proofs.entry.end.Given as goal

abbrev pub invariant-loop-at : goal.invariant-loop-at
invariant-loop-at l = FiltersInPlace (outlasts l.fn.frame l.fn.statement) l.fn.entries.items l.entries.items l.kept l.at
