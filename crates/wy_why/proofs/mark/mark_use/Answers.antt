-- A place comes from its last write, a value and a choice from their events.
use Rattle.std.proofs.Common.{◌||◌, Some, sym, ap, ◌∙◌}
use Rattle.wy_index.specs.Index.{owners_of}
use Rattle.wy_why.specs.Marks.{marked}
use Rattle.wy_why.proofs.Marking.{or_no, by_place, by_nothing, by_value, by_choice, data_taken}
use Rattle.wy_why.proofs.mark.mark_use.Goals as goal

pub returns-in-Some-clause-marks : goal.returns-in-Some-clause-marks
returns-in-Some-clause-marks g c = λ rs is all j.
    c.mark_event.ensures all j ∙ ap (λ b. marked all c.args.marks.now j || b)
    (sym (by_place (owners_of c.args.index.now) rs all c.args.flow c.args.used j c.in-Place.slot c.in-Place.moment (Some c.in-Some.event) c.in-Place.is (c.in-Some.ensures.write rs is) ∙ data_taken all c.args.flow c.in-Some.event j))

pub returns-in_default-clause-marks : goal.returns-in_default-clause-marks
returns-in_default-clause-marks g c = λ rs is all j.
    sym (ap (λ b. marked all c.args.marks.now j || b) (by_nothing (owners_of c.args.index.now) rs all c.args.flow c.args.used j c.in-Place.slot c.in-Place.moment c.in-Place.is (c.in_default.ensures.write rs is)) ∙ or_no (marked all c.args.marks.now j))

pub returns-in-Value-clause-marks : goal.returns-in-Value-clause-marks
returns-in-Value-clause-marks g c = λ rs is all j.
    c.mark_event-in-Value.ensures all j ∙ ap (λ b. marked all c.args.marks.now j || b) (sym (by_value (owners_of c.args.index.now) rs all c.args.flow c.args.used j c.in-Value.event c.in-Value.is))

pub returns-in-Choice-clause-marks : goal.returns-in-Choice-clause-marks
returns-in-Choice-clause-marks g c = λ rs is all j.
    c.mark_event-in-Choice.ensures all j ∙ ap (λ b. marked all c.args.marks.now j || b) (sym (by_choice (owners_of c.args.index.now) rs all c.args.flow c.args.used j c.in-Choice.event c.in-Choice.is))
