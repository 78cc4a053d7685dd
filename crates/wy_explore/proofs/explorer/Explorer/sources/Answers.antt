use Rattle.std.proofs.Common.{◌<◌, arith, get_or, subst}
use Rattle.std.specs.Prelude.{IfSome}
use Rattle.std.proofs.lemmas.List.Elements.{Contains-get_or}
use Rattle.wy_explore.proofs.Arms.{sources_missed, sources_of, sources_told}
use Rattle.wy_explore.proofs.explorer.Explorer.sources.Goals as goal

pub returns-in_default-clause-reply : goal.returns-in_default-clause-reply
returns-in_default-clause-reply g c = λ rs is. sources_missed c.args.opened.now.program.now c.args.opened.now.coverage.now rs c.args.self.now c.in_default.is

pub returns-clause-reply : goal.returns-clause-reply
returns-clause-reply g c = λ rs is.
    let o = c.args.opened.now in
    sources_told o.program.now o.coverage.now rs c.args.self.now c.in-Some.event c.in_ok-found.found c.in-Some.is
    (sources_of o (g.V.EventView.tells o.view) rs c.in-Some.event c.in_ok-found.found c.requires.opened (c.in_ok-found.ensures.sources rs is) c.in_ok-found.ensures.rises)

pub returns-clause-within : goal.returns-clause-within
returns-clause-within g c =
    let told = g.V.EventView.tells c.args.opened.now.view in
    let lt : c.in-Some.event < told.count = subst (λ o. IfSome o (λ n. n < told.count)) c.in-Some.is c.requires.within.cursor in
    λ k d short. omega (arith, lt, c.in_ok-found.ensures.below (get_or c.in_ok-found.found.items k d) (Contains-get_or c.in_ok-found.found.items k d short))
