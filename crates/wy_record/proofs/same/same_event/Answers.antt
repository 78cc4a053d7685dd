use Rattle.std.proofs.Common.{◌↔◌, IsTrue}
use Rattle.wy_record.proofs.Events.{SameData, SameNumbers, first_tells, lists_tell, others_tell, second_tells}
use Rattle.wy_record.proofs.same.same_event.Goals.{then-same_numbers, else-same_numbers}
use Rattle.wy_record.proofs.same.same_event.Goals as goal

pub returns-then-same_data : goal.returns-then-same_data
returns-then-same_data c =
    let a = c.args.a.now in
    let b = c.args.b.now in
    let others : IsTrue c.if-same_numbers.value ↔ (SameNumbers a b × SameData a b) = elim c.if-same_numbers.branch [
      | then-same_numbers w ↦ second_tells _ _ _ w.if-same_numbers.true w.value-is c.same_numbers.ensures w.same_data.ensures
      | else-same_numbers w ↦ first_tells _ _ w.if-same_numbers.false w.value-is c.same_numbers.ensures
    ] in
    lists_tell a b _ _ c.if-same_data.true others c.same_lists.ensures

pub returns-else-same_data : goal.returns-else-same_data
returns-else-same_data c =
    let a = c.args.a.now in
    let b = c.args.b.now in
    let others : IsTrue c.if-same_numbers.value ↔ (SameNumbers a b × SameData a b) = elim c.if-same_numbers.branch [
      | then-same_numbers w ↦ second_tells _ _ _ w.if-same_numbers.true w.value-is c.same_numbers.ensures w.same_data.ensures
      | else-same_numbers w ↦ first_tells _ _ w.if-same_numbers.false w.value-is c.same_numbers.ensures
    ] in
    others_tell a b _ c.if-same_data.false others
