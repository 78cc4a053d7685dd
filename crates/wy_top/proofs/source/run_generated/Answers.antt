use Rattle.std.proofs.Common.{◌∙◌, ap, length, arith}
use Rattle.wy_top.proofs.Generated.{source_short}
use Rattle.wy_top.proofs.Replies.{run_due, error_due}
use Rattle.wy_top.proofs.source.run_generated.Goals as goal

pub program_of_source-requires : goal.program_of_source-requires
program_of_source-requires c = omega (arith, ap length (c.as_slice.ensures.value ∙ c.in_ok-source.ensures), source_short c.args.number c.requires.few)

pub returns-in-Ok-clause-due : goal.returns-in-Ok-clause-due
returns-in-Ok-clause-due c = run_due _ _ c.in-Ok.typed.program c.answer_to_generated.result (rw (c.as_slice.ensures.value, c.in_ok-source.ensures) at c.in-Ok.ensures.program) c.answer_to_generated.ensures.status c.answer_to_generated.ensures.text

pub returns-clause-due : goal.returns-clause-due
returns-clause-due c = error_due _ _ c.in-Err.error c.answer_to_error.result (rw (c.as_slice.ensures.value, c.in_ok-source.ensures) at c.in-Err.ensures.refused) c.answer_to_error.ensures
