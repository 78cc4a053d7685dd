use Rattle.std.proofs.Common.{◌≡◌, ◌∙◌, false, [], ap, ne_eqb}
use Rattle.std.proofs.lemmas.List.{nil_from_length}
use Rattle.wy_telling.proofs.Merging.{begins_with, comes_later, comes_next}
use Rattle.wy_report.proofs.entries.next_of_data.Goals as goal

pub returns-then-first-event : goal.returns-then-first-event
returns-then-first-event c = λ set high rest rises is. comes_next set c.args.event high rest c.args.flow.now c.in-Some.rest.now c.in-Some.first.now rises is c.in-Some.ensures.cases.0 c.if-first-event.true

pub returns-else-first-event : goal.returns-else-first-event
returns-else-first-event c = λ set high rest rises is.
    let other : begins_with c.args.event c.args.flow.now ≡ false = ap (begins_with c.args.event) c.in-Some.ensures.cases.0 ∙ ne_eqb c.in-Some.first.now c.args.event c.if-first-event.false in
    comes_later set c.args.event high rest c.args.flow.now rises is other

pub returns-in_default : goal.returns-in_default
returns-in_default c = λ set high rest rises is.
    let none : c.args.flow.now ≡ [] = nil_from_length c.args.flow.now (c.in_default.ensures {u = tt}).cases in
    comes_later set c.args.event high rest c.args.flow.now rises is (ap (begins_with c.args.event) none)
