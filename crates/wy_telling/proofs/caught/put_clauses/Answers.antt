use Rattle.wy_telling.proofs.Clauses.{kept_whole}
use Rattle.wy_telling.proofs.caught.put_clauses.Goals as goal

pub returns : goal.returns
returns c = kept_whole _ _ c.args.catches.now c.loop-catch.catch-index c.loop-catch-test.false c.loop-catch.invariant
