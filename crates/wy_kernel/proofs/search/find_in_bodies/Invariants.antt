use Rattle.std.proofs.Common.{◌≡◌, drop, find, map, option_map}
use Rattle.wy_kernel.specs.Statements.{has_number, statements_of_bodies}
use Rattle.wy_kernel.specs.View.{body_of}
use Rattle.wy_kernel.proofs.search.find_in_bodies.Given as goal

abbrev pub invariant-loop-body : goal.invariant-loop-body
invariant-loop-body l = find (has_number l.n) (statements_of_bodies (map (option_map body_of) l.bodies)) ≡ find (has_number l.n) (statements_of_bodies (map (option_map body_of) (drop l.body-index l.bodies)))
