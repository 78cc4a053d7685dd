use Rattle.wy_telling.proofs.One.{one_answer_to_word}
use Rattle.wy_telling.proofs.laws.one_answer_to_whynot.Goals as goal

pub returns : goal.returns
returns c = one_answer_to_word c.items_are_one.ensures
