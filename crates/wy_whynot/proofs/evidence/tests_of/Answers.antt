use Rattle.std.proofs.Common.{◌≡◌, ◌∙◌, ℕ, List, Option, Some, ap, rules}
use Rattle.std.specs.Prelude.{filter}
use Rattle.std.specs.Prelude.{None as Absent}
use Rattle.wy_index.specs.declared.found.Hit.{Hit}
use Rattle.wy_index.specs.Found.{hits_in}
use Rattle.wy_whynot.specs.Evidence.{arm_of, events_of, gave_another, site_of_tests, tests_at, tests_of}
use Rattle.wy_whynot.proofs.evidence.tests_of.Goals as goal

pub returns-in_default : goal.returns-in_default
unfolding tests_of
returns-in_default c = λ rs is.
    let none : Absent ≡ arm_of c.args.link.now.kind = search rules in
    c.new.ensures.items ∙ ap (λ (o : Option ℕ). tests_at o (hits_in rs (site_of_tests c.args.link.now c.args.link.now.to))) none

pub returns : goal.returns
unfolding tests_of
returns c = λ rs is.
    let arm : Some c.in-Some.arm ≡ arm_of c.args.link.now.kind = search rules in
    c.in_ok-tests.ensures
    ∙ ap (λ (hs : List Hit). events_of (filter (gave_another c.in-Some.arm) hs)) (c.at_site.ensures rs is ∙ ap (hits_in rs) c.site_of_tests.ensures)
    ∙ ap (λ (o : Option ℕ). tests_at o (hits_in rs (site_of_tests c.args.link.now c.args.link.now.to))) arm
