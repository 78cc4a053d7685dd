use Rattle.std.proofs.Common.{ap, ◌∙◌, ◌++◌, List}
use Rattle.wy_static.specs.declared.standing.Standing.{Standing}
use Rattle.wy_static.proofs.Behind.{all_of}
use Rattle.wy_static.proofs.Stands.{of_clause, of_clauses}
use Rattle.wy_static.proofs.standing.put_catches.Goals as goal

pub returns : goal.returns
returns c = c.loop-clause.invariant ∙ ap (λ (l : List Standing). c.args.out.now.items ++ l) (all_of (of_clause c.args.method) c.args.clauses.now c.loop-clause.clause-index c.loop-clause-test.false ∙ of_clauses c.args.method c.args.clauses.now)
