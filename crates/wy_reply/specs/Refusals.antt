-- The status and the line of each refusal.
use Rattle.std.specs.Prelude.{ℕ, List}
use Rattle.wy_reply.specs.Lines.{usage_line, absent_line, of_trace, cut_line, damaged_line, bad_seal_line, changed_line, not_read_line, no_such_line, passed_line, ran_line, shelf_fault_line, recorder_fault_line, too_long_line, differs_line, tail_differs_line, certificate_not_read_line, other_trace_line, certificate_event_line}
use Rattle.wy_reply.specs.declared.lines.Refusal.{Refusal}
use Rattle.wy_reply.specs.declared.lines.Refusal.TheVariants.{Usage, Absent, Program, Cut, Damaged, BadSeal, Changed, TraceProgram, NotRead, NoSuch, Ran, Passed, FaultShelf, FaultRecorder, LongFile, AuditEvent, AuditTail, CertificateNotRead, CertificateOfOther, CertificateEvent}
use Rattle.wy_reply.specs.declared.status.Status.{Status}
use Rattle.wy_reply.specs.declared.status.Status.TheVariants as status
use Rattle.wy_reply.specs.Sources.{source_refusal_text}

abbrev pub refusal_status : Refusal → Status
refusal_status Usage = status.Usage
refusal_status (Absent name) = status.Absent
refusal_status (Program refusal) = status.Program
refusal_status (Cut byte) = status.Trace
refusal_status (Damaged byte rule) = status.Trace
refusal_status BadSeal = status.Trace
refusal_status (Changed block) = status.Trace
refusal_status (TraceProgram refusal) = status.Trace
refusal_status NotRead = status.Question
refusal_status (NoSuch number) = status.Question
refusal_status (Ran line place count first) = status.Question
refusal_status (Passed line place event) = status.Question
refusal_status FaultShelf = status.Fault
refusal_status FaultRecorder = status.Fault
refusal_status (LongFile name) = status.TooLong
refusal_status (AuditEvent event) = status.Audit
refusal_status AuditTail = status.Audit
refusal_status CertificateNotRead = status.Certificate
refusal_status CertificateOfOther = status.Certificate
refusal_status (CertificateEvent event) = status.Certificate

abbrev pub refusal_text : Refusal → List ℕ
refusal_text Usage = usage_line
refusal_text (Absent name) = absent_line name.now
refusal_text (Program refusal) = source_refusal_text refusal
refusal_text (Cut byte) = cut_line byte
refusal_text (Damaged byte rule) = damaged_line byte rule
refusal_text BadSeal = bad_seal_line
refusal_text (Changed block) = changed_line block
refusal_text (TraceProgram refusal) = of_trace (source_refusal_text refusal)
refusal_text NotRead = not_read_line
refusal_text (NoSuch number) = no_such_line number
refusal_text (Ran line place count first) = ran_line line place count first
refusal_text (Passed line place event) = passed_line line place event
refusal_text FaultShelf = shelf_fault_line
refusal_text FaultRecorder = recorder_fault_line
refusal_text (LongFile name) = too_long_line name.now
refusal_text (AuditEvent event) = differs_line event
refusal_text AuditTail = tail_differs_line
refusal_text CertificateNotRead = certificate_not_read_line
refusal_text CertificateOfOther = other_trace_line
refusal_text (CertificateEvent event) = certificate_event_line event
