use Rattle.std.proofs.Common.{ap, ◌∙◌, ◌++◌, List}
use Rattle.wy_static.specs.declared.way.Way.{Way}
use Rattle.wy_static.proofs.Behind.{all_of}
use Rattle.wy_static.proofs.Rules.{of_catch, of_catches}
use Rattle.wy_static.proofs.rule.put_to_catches.Goals as goal

pub returns : goal.returns
returns c = c.loop-clause.invariant ∙ ap (λ (l : List Way). c.args.out.now.items ++ l) (all_of (of_catch c.args.owner) c.args.clauses.now c.loop-clause.clause-index c.loop-clause-test.false ∙ of_catches c.args.owner c.args.clauses.now)
