use Rattle.wy_lens.proofs.Sources.{program_due, refusal_due}
use Rattle.wy_lens.proofs.answer.answer_to_source.Goals as goal
use Rattle.wy_lens.proofs.answer.answer_to_source.Goals.{in-Ok, in-Err-Refused, in-Err-NoMemory}

pub returns : goal.returns
returns c = elim c.match-program_of_source.branch [
  | in-Ok w ↦ rw w.result-is (program_due c.args.name.now c.args.source.now w.in-Ok.field-0.program w.accepted.result w.in-Ok.ensures.program w.accepted.ensures)
  | in-Err-Refused w ↦
      rw w.result-is (refusal_due c.args.name.now c.args.source.now w.in-Err-Refused.refusal w.refused.result (rw w.in-Err-Refused.field-0-is at w.in-Err-Refused.ensures.refused) w.refused.ensures)
  | in-Err-NoMemory w ↦ rw w.result-is tt
]
