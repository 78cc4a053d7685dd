use Rattle.wy_telling.proofs.NamedIn.{one_answer_in_call}
use Rattle.wy_telling.proofs.laws.one_answer_to_scope.Goals as goal

pub returns : goal.returns
returns c = one_answer_in_call c.items_are_one.ensures
