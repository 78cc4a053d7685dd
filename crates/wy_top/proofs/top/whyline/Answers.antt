use Rattle.std.proofs.Common.{◌∙◌, ap, map, refl, sym, None, Some}
use Rattle.std.specs.Prelude.{option_map, string_bytes}
use Rattle.wy_words.specs.Views.{request_of}
use Rattle.wy_top.specs.Answers.{IsAsked}
use Rattle.wy_top.proofs.RunAnswers.{written_so}
use Rattle.wy_top.proofs.Delivered.{absent_at, written_alone, written_due, written_last, prefix, answered_done, answered_starts_none, answered_usage, done_at, fault_at, fault_cause, fault_line, shelf_fault, recorder_fault, too_long_at}
use Rattle.wy_top.proofs.LeftLemmas.{any_untouched, untouched}
use Rattle.wy_top.proofs.Explored.{explored_alone, explored_absent, explored_fault_line, explored_shelf_fault, explored_out_fault, explored_carried, explored_cut, explored_fault, explored_finishes, explored_keys_fault, explored_last, explored_leaves, explored_reads_out, explored_too_long, explored_traces, is_command, is_session}
use Rattle.wy_top.proofs.Sessions.{explored_due, explored_prefix, nothing_prefix, session_of}
use Rattle.wy_top.proofs.Requests.{asked_nothing, asked_once, asks_no_session, few_asked, no_recording, none_asked, nothing_asked}
use Rattle.wy_top.proofs.top.whyline.Given as given
use Rattle.wy_top.proofs.top.whyline.Goals as goal
use Rattle.wy_top.proofs.top.whyline.Goals.{in-Some-Once, in-None}

-- what the words ask, where an answer was made and where memory ran out
asked : (g : given.Over) (c : goal.After-drop-answer g) → IsAsked (map string_bytes c.args.words.now) (option_map request_of c.match-command-2.request)
asked g c = elim c.match-command-2.branch [
  | in-Some-Once w ↦ asked_once _ c.in-Ok.command w.in-Some-Once.request _ c.in-Ok.ensures.asked (w.in-Some-Once.is ∙ ap Some (rw (w.in-Some-Once.is) at w.in-Some-Once.field-0-is)) w.request-is
  | in-None w ↦ asked_nothing _ c.in-Ok.command _ c.in-Ok.ensures.refused w.in-None.is w.request-is
]

asked_in_vain : (g : given.Over) (c : goal.After-code-in-Err-answer_to g) → IsAsked (map string_bytes c.args.words.now) (option_map request_of c.match-command-2.request)
asked_in_vain g c = elim c.match-command-2.branch [
  | in-Some-Once w ↦ asked_once _ c.in-Ok.command w.in-Some-Once.request _ c.in-Ok.ensures.asked (w.in-Some-Once.is ∙ ap Some (rw (w.in-Some-Once.is) at w.in-Some-Once.field-0-is)) w.request-is
  | in-None w ↦ asked_nothing _ c.in-Ok.command _ c.in-Ok.ensures.refused w.in-None.is w.request-is
]

pub returns-in-Err-clause-prefix : goal.returns-in-Err-clause-prefix
returns-in-Err-clause-prefix g c = nothing_prefix _ _ _ _ _ _

pub returns-in-Some-Explore-clause-due : goal.returns-in-Some-Explore-clause-due
returns-in-Some-Explore-clause-due g c = λ shelf recorder keys out knows some. explored_due _ _ _ _ _ _ _ _ _ _ _ (session_of c.words_ask_one_command.ensures _ c.in-Ok.command c.in-Some-Explore.trace c.in-Ok.ensures.asked (c.in-Some-Explore.is ∙ ap Some (rw (c.in-Some-Explore.is) at c.in-Some-Explore.field-0-is))) c.explore_trace.ensures.explores c.code-in-Some-Explore.ensures shelf keys out knows some

pub returns-in-Some-Explore-clause-prefix : goal.returns-in-Some-Explore-clause-prefix
returns-in-Some-Explore-clause-prefix g c = explored_prefix _ _ _ _ _ _ _ _ _ _ _ (session_of c.words_ask_one_command.ensures _ c.in-Ok.command c.in-Some-Explore.trace c.in-Ok.ensures.asked (c.in-Some-Explore.is ∙ ap Some (rw (c.in-Some-Explore.is) at c.in-Some-Explore.field-0-is))) c.explore_trace.ensures.explores

pub returns-in-Some-Explore-clause-carried : goal.returns-in-Some-Explore-clause-carried
returns-in-Some-Explore-clause-carried g c = λ zero. explored_carried _ _ _ _ _ _ _ _ _ _ (session_of c.words_ask_one_command.ensures _ c.in-Ok.command c.in-Some-Explore.trace c.in-Ok.ensures.asked (c.in-Some-Explore.is ∙ ap Some (rw (c.in-Some-Explore.is) at c.in-Some-Explore.field-0-is))) c.explore_trace.ensures.explores (done_at _ (sym c.code-in-Some-Explore.ensures ∙ zero))

pub returns-in-Some-Explore-clause-cut : goal.returns-in-Some-Explore-clause-cut
returns-in-Some-Explore-clause-cut g c = λ zero. explored_cut _ _ _ _ _ _ _ _ _ _ (session_of c.words_ask_one_command.ensures _ c.in-Ok.command c.in-Some-Explore.trace c.in-Ok.ensures.asked (c.in-Some-Explore.is ∙ ap Some (rw (c.in-Some-Explore.is) at c.in-Some-Explore.field-0-is))) c.explore_trace.ensures.explores (done_at _ (sym c.code-in-Some-Explore.ensures ∙ zero))

pub returns-in-Some-Explore-clause-fault_line : goal.returns-in-Some-Explore-clause-fault_line
returns-in-Some-Explore-clause-fault_line g c = λ seven. explored_fault_line _ _ _ _ _ _ _ _ _ _ _ (session_of c.words_ask_one_command.ensures _ c.in-Ok.command c.in-Some-Explore.trace c.in-Ok.ensures.asked (c.in-Some-Explore.is ∙ ap Some (rw (c.in-Some-Explore.is) at c.in-Some-Explore.field-0-is))) c.explore_trace.ensures.explores (fault_at _ (sym c.code-in-Some-Explore.ensures ∙ seven))

pub returns-in-Some-Explore-clause-alone : goal.returns-in-Some-Explore-clause-alone
returns-in-Some-Explore-clause-alone g c = λ was out. explored_alone _ _ _ _ _ _ _ _ _ _ _ (session_of c.words_ask_one_command.ensures _ c.in-Ok.command c.in-Some-Explore.trace c.in-Ok.ensures.asked (c.in-Some-Explore.is ∙ ap Some (rw (c.in-Some-Explore.is) at c.in-Some-Explore.field-0-is))) c.explore_trace.ensures.explores c.code-in-Some-Explore.ensures was out

pub returns-in-Ok-answer_to-clause-alone : goal.returns-in-Ok-answer_to-clause-alone
returns-in-Ok-answer_to-clause-alone g c = λ was out. written_alone _ _ _ _ c.in-Ok-answer_to.answer _ _ c.deliver.ensures c.code-in-Ok-answer_to.ensures was.0 was.1 out

pub returns-in-Some-Explore-clause-shelf_fault : goal.returns-in-Some-Explore-clause-shelf_fault
returns-in-Some-Explore-clause-shelf_fault g c = λ less. rw (c.code-in-Some-Explore.ensures) (explored_shelf_fault _ _ _ _ _ _ _ _ _ c.explore_trace.ensures.explores less)

pub returns-in-Some-Explore-clause-out_fault : goal.returns-in-Some-Explore-clause-out_fault
returns-in-Some-Explore-clause-out_fault g c = λ less. rw (c.code-in-Some-Explore.ensures) (explored_out_fault _ _ _ _ _ _ _ _ _ c.explore_trace.ensures.explores less)

pub returns-in-Ok-answer_to-clause-due : goal.returns-in-Ok-answer_to-clause-due
returns-in-Ok-answer_to-clause-due g c = λ shelf recorder keys out knows some. written_due _ _ _ _ _ _ _ _ _ c.in-Ok-answer_to.answer _ _ (c.in-Ok-answer_to.ensures.due _ _ (asked g c)) c.deliver.ensures c.code-in-Ok-answer_to.ensures shelf recorder out knows some

pub returns-in-Ok-answer_to-clause-prefix : goal.returns-in-Ok-answer_to-clause-prefix
returns-in-Ok-answer_to-clause-prefix g c = prefix _ _ _ _ _ _ _ _ _ c.in-Ok-answer_to.answer _ refl (c.in-Ok-answer_to.ensures.due _ _ (asked g c)) c.deliver.ensures

pub returns-in-Ok-answer_to-clause-traces : goal.returns-in-Ok-answer_to-clause-traces
returns-in-Ok-answer_to-clause-traces g c = λ zero. c.in-Ok-answer_to.ensures.traces _ (asked g c) (answered_done _ _ _ _ c.in-Ok-answer_to.answer _ _ c.deliver.ensures c.code-in-Ok-answer_to.ensures zero)

pub returns-in-Ok-answer_to-clause-fault : goal.returns-in-Ok-answer_to-clause-fault
returns-in-Ok-answer_to-clause-fault g c = fault_cause _ _ _ _ _ _ _ c.in-Ok-answer_to.answer _ _ c.in-Ok-answer_to.ensures.fault c.deliver.ensures c.code-in-Ok-answer_to.ensures

pub returns-in-Ok-answer_to-clause-fault_line : goal.returns-in-Ok-answer_to-clause-fault_line
returns-in-Ok-answer_to-clause-fault_line g c = fault_line _ _ _ _ _ _ _ _ _ c.in-Ok-answer_to.answer _ _ c.in-Ok-answer_to.ensures.fault c.deliver.ensures c.code-in-Ok-answer_to.ensures

pub returns-in-Ok-answer_to-clause-carried : goal.returns-in-Ok-answer_to-clause-carried
returns-in-Ok-answer_to-clause-carried g c = λ zero.
    written_so _ _ _ _ _ c.in-Ok-answer_to.answer _ c.deliver.ensures (done_at _ (sym c.code-in-Ok-answer_to.ensures ∙ zero)) (c.in-Ok-answer_to.ensures.carried _ (asked g c) (answered_done _ _ _ _ c.in-Ok-answer_to.answer _ _ c.deliver.ensures c.code-in-Ok-answer_to.ensures zero))

pub returns-in-Ok-answer_to-clause-cut : goal.returns-in-Ok-answer_to-clause-cut
returns-in-Ok-answer_to-clause-cut g c = λ zero.
    written_so _ _ _ _ _ c.in-Ok-answer_to.answer _ c.deliver.ensures (done_at _ (sym c.code-in-Ok-answer_to.ensures ∙ zero)) (c.in-Ok-answer_to.ensures.cut _ (asked g c) (answered_done _ _ _ _ c.in-Ok-answer_to.answer _ _ c.deliver.ensures c.code-in-Ok-answer_to.ensures zero))

pub returns-in-Err-answer_to-clause-prefix : goal.returns-in-Err-answer_to-clause-prefix
returns-in-Err-answer_to-clause-prefix g c = nothing_prefix _ _ _ _ _ _

pub answer_to-requires-clause-methods : goal.answer_to-requires-clause-methods
answer_to-requires-clause-methods g c = few_asked (map string_bytes c.args.words.now) _ (elim c.match-command-2.branch [
  | in-Some-Once w ↦ asked_once _ c.in-Ok.command w.in-Some-Once.request _ c.in-Ok.ensures.asked (w.in-Some-Once.is ∙ ap Some (rw (w.in-Some-Once.is) at w.in-Some-Once.field-0-is)) w.request-is
  | in-None w ↦ asked_nothing _ c.in-Ok.command _ c.in-Ok.ensures.refused w.in-None.is w.request-is
])

pub returns-in-Ok-answer_to-clause-shelf_fault : goal.returns-in-Ok-answer_to-clause-shelf_fault
returns-in-Ok-answer_to-clause-shelf_fault g c = shelf_fault _ _ _ _ _ _ _ _ _ c.in-Ok-answer_to.answer _ _ (c.in-Ok-answer_to.ensures.due _ None (asked g c)) c.deliver.ensures c.code-in-Ok-answer_to.ensures

pub returns-in-Ok-answer_to-clause-recorder_fault : goal.returns-in-Ok-answer_to-clause-recorder_fault
returns-in-Ok-answer_to-clause-recorder_fault g c = recorder_fault _ _ _ _ _ _ _ _ _ c.in-Ok-answer_to.answer _ _ (c.in-Ok-answer_to.ensures.due _ None (asked g c)) c.deliver.ensures c.code-in-Ok-answer_to.ensures

pub returns-in-Ok-answer_to-clause-usage : goal.returns-in-Ok-answer_to-clause-usage
returns-in-Ok-answer_to-clause-usage g c = λ two. nothing_asked _ _ (asked g c) (c.in-Ok-answer_to.ensures.usage (answered_usage _ _ _ _ c.in-Ok-answer_to.answer _ _ c.deliver.ensures c.code-in-Ok-answer_to.ensures two))

pub returns-in-Ok-answer_to-clause-leaves : goal.returns-in-Ok-answer_to-clause-leaves
returns-in-Ok-answer_to-clause-leaves g c = c.answer_to.ensures.left _ (asked g c)

pub returns-in-Err-answer_to-clause-leaves : goal.returns-in-Err-answer_to-clause-leaves
returns-in-Err-answer_to-clause-leaves g c = c.answer_to.ensures.left _ (asked_in_vain g c)

pub returns-in-Ok-answer_to-clause-records_nothing : goal.returns-in-Ok-answer_to-clause-records_nothing
returns-in-Ok-answer_to-clause-records_nothing g c = λ nothing. c.answer_to.ensures.records_nothing (no_recording _ _ (asked g c) nothing)

pub returns-in-Err-answer_to-clause-records_nothing : goal.returns-in-Err-answer_to-clause-records_nothing
returns-in-Err-answer_to-clause-records_nothing g c = λ nothing. c.answer_to.ensures.records_nothing (no_recording _ _ (asked_in_vain g c) nothing)

pub returns-in-Ok-answer_to-clause-reads_nothing : goal.returns-in-Ok-answer_to-clause-reads_nothing
returns-in-Ok-answer_to-clause-reads_nothing g c = λ none. c.answer_to.ensures.reads_nothing (none_asked _ _ (asked g c) none)

pub returns-in-Err-answer_to-clause-reads_nothing : goal.returns-in-Err-answer_to-clause-reads_nothing
returns-in-Err-answer_to-clause-reads_nothing g c = λ none. c.answer_to.ensures.reads_nothing (none_asked _ _ (asked_in_vain g c) none)

pub returns-in-Some-Explore-clause-too_long : goal.returns-in-Some-Explore-clause-too_long
returns-in-Some-Explore-clause-too_long g c = λ eight. explored_too_long _ _ _ _ _ _ _ _ _ _ (session_of c.words_ask_one_command.ensures _ c.in-Ok.command c.in-Some-Explore.trace c.in-Ok.ensures.asked (c.in-Some-Explore.is ∙ ap Some (rw (c.in-Some-Explore.is) at c.in-Some-Explore.field-0-is))) c.explore_trace.ensures.explores (too_long_at _ (sym c.code-in-Some-Explore.ensures ∙ eight))

pub returns-in-Some-Explore-clause-fault : goal.returns-in-Some-Explore-clause-fault
returns-in-Some-Explore-clause-fault g c = λ seven. explored_fault _ _ _ _ _ _ _ _ _ _ _ (session_of c.words_ask_one_command.ensures _ c.in-Ok.command c.in-Some-Explore.trace c.in-Ok.ensures.asked (c.in-Some-Explore.is ∙ ap Some (rw (c.in-Some-Explore.is) at c.in-Some-Explore.field-0-is))) c.explore_trace.ensures.explores (fault_at _ (sym c.code-in-Some-Explore.ensures ∙ seven))

pub returns-in-Some-Explore-clause-traces : goal.returns-in-Some-Explore-clause-traces
returns-in-Some-Explore-clause-traces g c = λ zero. explored_traces _ _ _ _ _ _ (session_of c.words_ask_one_command.ensures _ c.in-Ok.command c.in-Some-Explore.trace c.in-Ok.ensures.asked (c.in-Some-Explore.is ∙ ap Some (rw (c.in-Some-Explore.is) at c.in-Some-Explore.field-0-is)))

pub returns-in-Some-Explore-clause-leaves : goal.returns-in-Some-Explore-clause-leaves
returns-in-Some-Explore-clause-leaves g c = explored_leaves _ _ _ _ _ _ _ (session_of c.words_ask_one_command.ensures _ c.in-Ok.command c.in-Some-Explore.trace c.in-Ok.ensures.asked (c.in-Some-Explore.is ∙ ap Some (rw (c.in-Some-Explore.is) at c.in-Some-Explore.field-0-is)))

pub returns-in-Some-Explore-clause-reads_nothing : goal.returns-in-Some-Explore-clause-reads_nothing
returns-in-Some-Explore-clause-reads_nothing g c = λ none. absurd (is_command _ _ (session_of c.words_ask_one_command.ensures _ c.in-Ok.command c.in-Some-Explore.trace c.in-Ok.ensures.asked (c.in-Some-Explore.is ∙ ap Some (rw (c.in-Some-Explore.is) at c.in-Some-Explore.field-0-is))) none)

pub returns-in-Some-Explore-clause-keys_stay : goal.returns-in-Some-Explore-clause-keys_stay
returns-in-Some-Explore-clause-keys_stay g c = λ other. absurd (other (is_session _ _ (session_of c.words_ask_one_command.ensures _ c.in-Ok.command c.in-Some-Explore.trace c.in-Ok.ensures.asked (c.in-Some-Explore.is ∙ ap Some (rw (c.in-Some-Explore.is) at c.in-Some-Explore.field-0-is)))))

pub returns-in-Err-clause-leaves : goal.returns-in-Err-clause-leaves
returns-in-Err-clause-leaves g c = untouched _ _ _ c.requires.ready.0 _ _

pub returns-in-Err-clause-leaves_some : goal.returns-in-Err-clause-leaves_some
returns-in-Err-clause-leaves_some g c = any_untouched _ _ _ c.requires.ready.0 _

pub returns-in-Some-Explore-clause-leaves_some : goal.returns-in-Some-Explore-clause-leaves_some
returns-in-Some-Explore-clause-leaves_some g c = any_untouched _ _ _ c.requires.ready.0 _

pub returns-in-Ok-answer_to-clause-leaves_some : goal.returns-in-Ok-answer_to-clause-leaves_some
returns-in-Ok-answer_to-clause-leaves_some g c = c.answer_to.ensures.left_some _ (asked g c)

pub returns-in-Err-answer_to-clause-leaves_some : goal.returns-in-Err-answer_to-clause-leaves_some
returns-in-Err-answer_to-clause-leaves_some g c = c.answer_to.ensures.left_some _ (asked_in_vain g c)

pub returns-in-Some-Explore-clause-finishes_program : goal.returns-in-Some-Explore-clause-finishes_program
returns-in-Some-Explore-clause-finishes_program g c = λ out shelf recorder. explored_finishes _ _ _ _ (session_of c.words_ask_one_command.ensures _ c.in-Ok.command c.in-Some-Explore.trace c.in-Ok.ensures.asked (c.in-Some-Explore.is ∙ ap Some (rw (c.in-Some-Explore.is) at c.in-Some-Explore.field-0-is)))

pub returns-in-Ok-answer_to-clause-starts_none : goal.returns-in-Ok-answer_to-clause-starts_none
returns-in-Ok-answer_to-clause-starts_none g c = λ none. c.in-Ok-answer_to.ensures.unstarted (answered_starts_none _ _ _ _ c.in-Ok-answer_to.answer _ _ c.deliver.ensures c.code-in-Ok-answer_to.ensures none)

pub returns-in-Ok-answer_to-clause-finishes_program : goal.returns-in-Ok-answer_to-clause-finishes_program
returns-in-Ok-answer_to-clause-finishes_program g c = λ out shelf recorder. c.in-Ok-answer_to.ensures.finishes _ (asked g c) shelf recorder

pub returns-in-Some-Explore-clause-last_line : goal.returns-in-Some-Explore-clause-last_line
returns-in-Some-Explore-clause-last_line g c = λ of_trace out. explored_last _ _ _ _ _ _ _ _ _ _ c.explore_trace.ensures.explores c.code-in-Some-Explore.ensures of_trace out

pub returns-in-Ok-answer_to-clause-last_line : goal.returns-in-Ok-answer_to-clause-last_line
returns-in-Ok-answer_to-clause-last_line g c = λ of_trace out. written_last _ _ _ _ c.in-Ok-answer_to.answer _ _ c.deliver.ensures c.code-in-Ok-answer_to.ensures of_trace out

pub returns-in-Some-Explore-clause-absent : goal.returns-in-Some-Explore-clause-absent
returns-in-Some-Explore-clause-absent g c = λ three. explored_absent _ _ _ _ _ _ _ _ _ c.explore_trace.ensures.explores (absent_at _ (sym c.code-in-Some-Explore.ensures ∙ three))

pub returns-in-Some-Explore-clause-keys_fault : goal.returns-in-Some-Explore-clause-keys_fault
returns-in-Some-Explore-clause-keys_fault g c = λ less. rw (c.code-in-Some-Explore.ensures) (explored_keys_fault _ _ _ _ _ _ _ _ _ c.explore_trace.ensures.explores less)

pub returns-in-Some-Explore-clause-reads_out : goal.returns-in-Some-Explore-clause-reads_out
returns-in-Some-Explore-clause-reads_out g c = λ zero. explored_reads_out _ _ _ _ _ _ _ _ _ _ (session_of c.words_ask_one_command.ensures _ c.in-Ok.command c.in-Some-Explore.trace c.in-Ok.ensures.asked (c.in-Some-Explore.is ∙ ap Some (rw (c.in-Some-Explore.is) at c.in-Some-Explore.field-0-is))) c.explore_trace.ensures.explores (done_at _ (sym c.code-in-Some-Explore.ensures ∙ zero))

pub returns-in-Ok-answer_to-clause-reads_out : goal.returns-in-Ok-answer_to-clause-reads_out
returns-in-Ok-answer_to-clause-reads_out g c = λ zero trace files input asks told given. absurd (asks_no_session c.words_ask_one_command.ensures _ _ (asked g c) trace asks)
