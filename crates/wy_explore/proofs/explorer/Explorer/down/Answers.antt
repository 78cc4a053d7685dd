use Rattle.wy_explore.specs.Session.{IsLeastAbove}
use Rattle.wy_explore.proofs.Leading.{leads_within}
use Rattle.wy_explore.proofs.explorer.Explorer.down.Goals as goal

pub returns-clause-within : goal.returns-clause-within
returns-clause-within c = λ count all.
    let x = c.args.self.now in
    c.look_at.ensures.within count (leads_within IsLeastAbove (λ events n m is. is.there) x count c.in-Some.event all (c.in-Some.ensures {u = tt})) all
