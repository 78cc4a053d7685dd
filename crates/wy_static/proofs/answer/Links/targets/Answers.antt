use Rattle.std.proofs.Common.{ℕ, List, sym, subst}
use Rattle.wy_static.specs.LookUps.{AreTargetsAt}
use Rattle.wy_static.proofs.answer.Links.targets.Goals as goal

pub returns : goal.returns
returns c = λ p all. subst (λ (ns : List ℕ). AreTargetsAt p c.args.site ns) (sym c.numbers_under.ensures) (all.targets c.args.site)
