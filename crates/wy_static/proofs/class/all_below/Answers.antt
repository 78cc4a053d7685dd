use Rattle.std.proofs.Common.{ℕ, ◌<◌, All, List, take_all, subst}
use Rattle.std.proofs.lemmas.List.Elements.{All-contains, All-more}
use Rattle.wy_static.proofs.class.all_below.Goals as goal

pub loop-n-preserved : goal.loop-n-preserved
loop-n-preserved c = All-more (λ d. d < c.args.many) c.args.numbers.now c.loop-n.n-index 0 c.loop-n-test.true c.loop-n.invariant c.if-n-many.false

pub returns : goal.returns
returns c = λ yes d among.
    let all = subst (λ (xs : List ℕ). All (λ d. d < c.args.many) xs) (take_all c.loop-n.n-index c.args.numbers.now c.loop-n-test.false) c.loop-n.invariant in
    All-contains (λ d. d < c.args.many) c.args.numbers.now d all among
