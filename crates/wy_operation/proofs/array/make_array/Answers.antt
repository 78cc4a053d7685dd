use Rattle.wy_state.specs.Seen.{made_of}
use Rattle.wy_operation.proofs.Arrays.{made_as}
use Rattle.wy_operation.proofs.Runs.{answers_as}
use Rattle.wy_operation.proofs.array.make_array.Goals as goal

pub returns-in-Some-clause-step : goal.returns-in-Some-clause-step
returns-in-Some-clause-step g c p w v is = answers_as p made_of c.note_array.result _ _ _ _ (made_as p w is _ v _ _ _ _ c.in-Some.ensures.code) (c.note_array.ensures.step p)
