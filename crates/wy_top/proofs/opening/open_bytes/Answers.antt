use Rattle.wy_top.proofs.Opened.{no_program_of, no_trace_of}
use Rattle.wy_top.proofs.opening.open_bytes.Goals as goal

pub returns-in_ok-answer_to_error-in-Err-Source-clause-opens : goal.returns-in_ok-answer_to_error-in-Err-Source-clause-opens
returns-in_ok-answer_to_error-in-Err-Source-clause-opens c = no_program_of _ c.in-Err-Source.error c.in_ok-answer_to_error-in-Err-Source.field-0 (rw (c.in-Err-Source.field-0-is) at c.in-Err-Source.ensures.refused) c.in_ok-answer_to_error-in-Err-Source.ensures

pub returns-in_ok-answer_to_trace_error-in-Err-Trace-clause-opens : goal.returns-in_ok-answer_to_trace_error-in-Err-Trace-clause-opens
returns-in_ok-answer_to_trace_error-in-Err-Trace-clause-opens c = no_trace_of _ c.in-Err-Trace.error c.in_ok-answer_to_trace_error-in-Err-Trace.field-0 (rw (c.in-Err-Trace.field-0-is) at c.in-Err-Trace.ensures.refused) c.in_ok-answer_to_trace_error-in-Err-Trace.ensures
