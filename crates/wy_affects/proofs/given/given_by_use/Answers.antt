-- A place gives the mark of its last write, a value and a choice those of their events.
use Rattle.std.proofs.Common.{◌&&◌, Some, sym, ap, ◌∙◌, arith}
use Rattle.wy_index.specs.Index.{owners_of}
use Rattle.wy_why.specs.Marks.{marked}
use Rattle.wy_affects.proofs.Giving.{by_choice, by_nothing, by_place, by_value, data_given}
use Rattle.wy_affects.proofs.given.given_by_use.Goals as goal

pub returns-in-Some-clause-mark : goal.returns-in-Some-clause-mark
returns-in-Some-clause-mark g c = λ rs is all.
    let marks = c.args.marks.now in
    c.mark_of.ensures all
    ∙ sym (by_place (owners_of c.args.index.now) rs marks all c.args.used c.in-Place.slot c.in-Place.moment (Some c.in-Some.event) c.in-Place.is (c.in-Some.ensures.write rs is) ∙ data_given marks all c.in-Some.event)

pub returns-in-None-clause-mark : goal.returns-in-None-clause-mark
returns-in-None-clause-mark g c = λ rs is all.
    sym (by_nothing (owners_of c.args.index.now) rs c.args.marks.now all c.args.used c.in-Place.slot c.in-Place.moment c.in-Place.is (c.in-None.ensures.write rs is))

pub returns-in-Value-clause-mark : goal.returns-in-Value-clause-mark
returns-in-Value-clause-mark g c = λ rs is all.
    c.mark_of-in-Value.ensures all ∙ sym (by_value (owners_of c.args.index.now) rs c.args.marks.now all c.args.used c.in-Value.event c.in-Value.is)

pub returns-in-Choice-clause-mark : goal.returns-in-Choice-clause-mark
returns-in-Choice-clause-mark g c = λ rs is all.
    c.without_data.ensures all ∙ ap (λ b. all && b) (c.mark_of-in-Choice.ensures all)
    ∙ sym (by_choice (owners_of c.args.index.now) rs c.args.marks.now all c.args.used c.in-Choice.event c.in-Choice.is)
