use Rattle.wy_elab_stmt.proofs.OneProgram.{one_elaboration}
use Rattle.wy_elab_stmt.proofs.laws.a_text_has_one_program.Goals as goal

pub returns : goal.returns
returns c = one_elaboration c.one_refusal_is_due.ensures.one c.one_refusal_is_due.ensures.none c.one_constant_stands_for_a_field.ensures.list c.one_judgement_stands.ensures
