use Rattle.std.proofs.Common.{arith}
use Rattle.wy_top.proofs.Opened.{is_decoded, opened_due}
use Rattle.wy_top.proofs.RunAnswers.{opened_answered}
use Rattle.wy_top.proofs.trace.answer_to_bytes.Goals as goal

pub answer_to_trace-requires-clause-decoded : goal.answer_to_trace-requires-clause-decoded
answer_to_trace-requires-clause-decoded c =
    is_decoded c.args.bytes.now c.in-Open.typed c.in-Open.trace (λ i. omega (arith, c.type_inv.bytes i)) c.requires (rw (c.in-Open.is) at c.in_ok-typed.ensures.opens)

pub returns-in-Open-clause-due : goal.returns-in-Open-clause-due
returns-in-Open-clause-due c =
    let opens = rw (c.in-Open.is) at c.in_ok-typed.ensures.opens in
    opened_due c.args.bytes.now _ c.in-Open.typed c.in-Open.trace c.answer_to_trace.result opens
    c.answer_to_trace.ensures.due

pub returns-in-Open-clause-by_run : goal.returns-in-Open-clause-by_run
returns-in-Open-clause-by_run c =
    let opens = rw (c.in-Open.is) at c.in_ok-typed.ensures.opens in
    opened_answered (record {
      lists = c.a_text_has_one_token_list.ensures;
      tokens = c.a_refused_text_has_no_tokens.ensures.tokens;
      one = c.a_refused_text_has_no_tokens.ensures.one;
      utf8 = c.a_refused_text_has_no_tokens.ensures.utf8;
      trees = c.a_token_list_has_one_tree.ensures;
      programs = c.a_text_has_one_program.ensures;
    }) (record { ordered = c.tokens_stand_in_order.ensures; cut = c.items_are_a_cut.ensures; needed = c.runs_of_texts.ensures.needed; calls = c.runs_of_texts.ensures.calls; told = c.recorded_traces_tell_events.ensures }) c.heads_are_short.ensures
    c.args.bytes.now _ c.in-Open.typed c.in-Open.trace c.answer_to_trace.result (λ i. omega (arith, c.type_inv.bytes i)) opens c.answer_to_trace.ensures.by_run c.answer_to_trace.ensures.source

pub returns-in-Refused-clause-due : goal.returns-in-Refused-clause-due
returns-in-Refused-clause-due c = (rw (c.in-Refused.is) at c.in_ok-typed.ensures.opens).1 _

pub returns-in-Refused-clause-by_run : goal.returns-in-Refused-clause-by_run
returns-in-Refused-clause-by_run c = λ done. absurd ((rw (c.in-Refused.is) at c.in_ok-typed.ensures.opens).0 done)
