use Rattle.std.proofs.Common.{refl}
use Rattle.wy_static.proofs.Rules.{owner}
use Rattle.wy_static.proofs.rule.owner_of.Goals as goal

pub returns : goal.returns
returns c = owner c.args.s.now _ refl
