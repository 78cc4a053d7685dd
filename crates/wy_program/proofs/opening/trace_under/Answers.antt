use Rattle.wy_program.proofs.Openings.{no_trace_under}
use Rattle.wy_program.proofs.opening.trace_under.Goals as goal

pub returns-in-Err-decode-clause-refused : goal.returns-in-Err-decode-clause-refused
returns-in-Err-decode-clause-refused c = no_trace_under _ _ _ _ c.in-Ok.ensures.program c.in-Err-decode.ensures
