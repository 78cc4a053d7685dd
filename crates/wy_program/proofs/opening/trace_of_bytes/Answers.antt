use Rattle.wy_program.proofs.Openings.{no_head, opened_by_head, refused_by_head}
use Rattle.wy_program.proofs.opening.trace_of_bytes.Goals as goal

pub returns-in-Ok-clause-opens : goal.returns-in-Ok-clause-opens
returns-in-Ok-clause-opens c = opened_by_head _ _ c.in-Ok.head _ _ c.trace_under.result c.in-Ok.ensures c.as_slice.ensures c.trace_under.ensures.opens

pub returns-in-Ok-clause-refused : goal.returns-in-Ok-clause-refused
returns-in-Ok-clause-refused c = refused_by_head _ _ c.in-Ok.head _ _ c.trace_under.result c.in-Ok.ensures c.as_slice.ensures c.trace_under.ensures.refused

pub returns-in-Err-clause-refused : goal.returns-in-Err-clause-refused
returns-in-Err-clause-refused c = no_head _ c.in-Err.error c.in-Err.ensures
