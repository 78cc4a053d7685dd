-- the events so far are the same
use Rattle.wy_compare.proofs.Walking.{SameBelow}
use Rattle.wy_compare.proofs.parting.first_part.Given as goal

abbrev pub invariant-loop-n : goal.invariant-loop-n
invariant-loop-n l = SameBelow l.look l.good l.bad l.n
