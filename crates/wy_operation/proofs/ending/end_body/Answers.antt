use Rattle.wy_operation.proofs.Endings.{end_fell, end_goes}
use Rattle.wy_operation.proofs.Runs.{noted_as}
use Rattle.wy_operation.proofs.ending.end_body.Goals as goal

pub returns-then-not-returns_none-clause-step : goal.returns-then-not-returns_none-clause-step
returns-then-not-returns_none-clause-step g c p = end_fell p _ _ _ c.if-not-returns_none.true

pub returns-clause-step : goal.returns-clause-step
returns-clause-step g c p =
    end_goes p _ _ _ c.note.result _ c.if-not-returns_none.false (noted_as p c.note.result _ _ _ _ _ _ c.plain.ensures.draft c.plain.ensures.value (c.note.ensures.step p))
