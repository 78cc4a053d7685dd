use Rattle.wy_explore.proofs.Arms.{list_missed, list_told}
use Rattle.wy_explore.proofs.explorer.Explorer.listing.Goals as goal

pub returns-in-Some-clause-reply : goal.returns-in-Some-clause-reply
returns-in-Some-clause-reply c = λ m covers rs. list_told m covers rs c.args.self.now c.in-Some.asked c.in-Some.is

pub returns-in-None-clause-reply : goal.returns-in-None-clause-reply
returns-in-None-clause-reply c = λ m covers rs. list_missed m covers rs c.args.self.now c.in-None.is
