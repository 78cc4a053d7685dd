use Rattle.std.proofs.Common.{◌∙◌, sym}
use Rattle.std.proofs.lemmas.Bool.{false≢true}
use Rattle.std.proofs.lemmas.Bool.Decides.{Decides-eqb}
use Rattle.std.proofs.lemmas.Slice.Eq.{slice_eq-Decides}
use Rattle.wy_lens.proofs.pair.same_source.Goals as goal

pub returns-clause-same : goal.returns-clause-same
returns-clause-same c is = (slice_eq-Decides (λ a b. Decides-eqb a b) c.args.good.now c.args.bad.now c.eq.result c.eq.ensures).0 is

pub returns-clause-other : goal.returns-clause-other
returns-clause-other c is same = false≢true (sym is ∙ (slice_eq-Decides (λ a b. Decides-eqb a b) c.args.good.now c.args.bad.now c.eq.result c.eq.ensures).1 same)
