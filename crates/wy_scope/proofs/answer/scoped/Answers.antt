-- The scope and the regions are found; the region of the statement was passed, or what is blocked on the ways to it is told.
use Rattle.std.proofs.Common.{◌≡◌, ◌∙◌, ap, map, rules, subst}
use Rattle.std.specs.Prelude.{None as Absent}
use Rattle.wy_kernel.specs.Parts.{program_of}
use Rattle.wy_static.specs.declared.point.Link.{Link}
use Rattle.std.specs.Prelude.{List}
use Rattle.wy_scope.specs.Evidence.{evidence, evidence_in}
use Rattle.wy_scope.specs.Items.{AreBlockedBetween}
use Rattle.wy_scope.specs.Regions.{regions_of}
use Rattle.wy_scope.proofs.Answering.{answer, index_of, passed_first}
use Rattle.wy_scope.proofs.Between.{are_scoped}
use Rattle.wy_scope.proofs.answer.scoped.Goals as goal

pub returns-in-Some-clause-answer : goal.returns-in-Some-clause-answer
returns-in-Some-clause-answer g c = λ rs is.
    let p = program_of c.args.program.now in
    let scope = c.in_ok-scope.ensures.scope rs is in
    passed_first p rs c.args.call c.args.statement c.region_of-region.result (c.region_of-region.ensures (regions_of p) c.in_ok-regions.ensures) c.first_pass.result
    (c.first_pass.ensures p rs c.args.call c.requires.links scope) c.in-Some.event c.in-Some.is

pub returns-clause-answer : goal.returns-clause-answer
returns-clause-answer g c = λ rs is.
    let p = program_of c.args.program.now in
    let call = c.args.call in
    let region = c.region_of-region.result in
    let kept = c.in_ok-regions.ensures in
    let scope = c.in_ok-scope.ensures.scope rs is in
    let between = c.in_ok-between.between.items in
    let blocked = c.in_ok-blocked.blocked.items in
    let none : c.first_pass.result ≡ Absent = search rules in
    answer p rs call c.args.statement region (c.region_of-region.ensures (regions_of p) kept) c.first_pass.result (c.first_pass.ensures p rs call c.requires.links scope) none between blocked
    (are_scoped p (regions_of p) c.all.result.now between (c.all.ensures p c.requires.links) (c.in_ok-between.ensures (regions_of p) kept))
    (subst (λ (ls : List Link). AreBlockedBetween p rs call region ls blocked) c.deref.ensures.value (c.in_ok-blocked.ensures p rs call c.requires.links scope))
    (map evidence_in c.in_ok-items.items.items)
    (c.in_ok-items.ensures p rs call c.requires.links (index_of c.args.index.now (g.V.EventView.tells c.args.view.now) rs is c.requires.index) scope ∙ ap (map (evidence p rs call)) c.deref-2.ensures.value)
