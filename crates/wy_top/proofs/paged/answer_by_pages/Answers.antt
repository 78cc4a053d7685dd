use Rattle.wy_reply.specs.Tellings.{inquiry_of}
use Rattle.wy_top.specs.Due.{DueForTrace}
use Rattle.wy_top.specs.Paging.{DueInPages}
use Rattle.wy_top.proofs.Paging.{any_answered, from_clauses, mapped_from, moved_from, moved_run, paged_answered, paged_due}
use Rattle.wy_top.proofs.paged.answer_by_pages.Goals as goal

pub returns-in-Open-clause-answers : goal.returns-in-Open-clause-answers
returns-in-Open-clause-answers g c =
    let held = g.S.Shelf.held c.args.shelf.now in
    let w = inquiry_of c.args.inquiry in
    let typed = c.in-Open.typed in
    let pages = c.in-Open.pages in
    let tail = c.in-Open.tail in
    let opens = rw (c.in-Open.is) at c.in_ok-typed.ensures.opens in
    let moved = moved_from (DueInPages typed.program pages tail w) held _ _ _ _ c.answer_in.result c.open_pages.ensures.files_stay opens.0 c.answer_in.ensures.answers in
    mapped_from (DueInPages typed.program pages tail w) (λ files. DueForTrace files c.args.name.now w) held _ _ c.answer_in.result (paged_due held c.args.name.now typed.program w pages tail opens.2) moved

pub returns-in-Open-clause-by_run : goal.returns-in-Open-clause-by_run
returns-in-Open-clause-by_run g c =
    let held = g.S.Shelf.held c.args.shelf.now in
    let w = inquiry_of c.args.inquiry in
    let typed = c.in-Open.typed in
    let pages = c.in-Open.pages in
    let tail = c.in-Open.tail in
    let opens = rw (c.in-Open.is) at c.in_ok-typed.ensures.opens in
    let moved = moved_from (DueInPages typed.program pages tail w) held _ _ _ _ c.answer_in.result c.open_pages.ensures.files_stay opens.0 c.answer_in.ensures.answers in
    paged_answered (record {
      lists = c.a_text_has_one_token_list.ensures;
      tokens = c.a_refused_text_has_no_tokens.ensures.tokens;
      one = c.a_refused_text_has_no_tokens.ensures.one;
      utf8 = c.a_refused_text_has_no_tokens.ensures.utf8;
      trees = c.a_token_list_has_one_tree.ensures;
      programs = c.a_text_has_one_program.ensures;
    }) (record { ordered = c.tokens_stand_in_order.ensures; cut = c.items_are_a_cut.ensures; needed = c.runs_of_texts.ensures.needed; calls = c.runs_of_texts.ensures.calls; told = c.recorded_traces_tell_events.ensures })
    c.heads_are_short.ensures c.tellings_are_by_runs.ensures held c.args.name.now typed.program w pages tail _ _ c.answer_in.result opens.2 moved

pub returns-in-Refused-clause-answers : goal.returns-in-Refused-clause-answers
returns-in-Refused-clause-answers g c =
    let opens = rw (c.in-Refused.is) at c.in_ok-typed.ensures.opens in
    any_answered (g.S.Shelf.held c.args.shelf.now) c.args.name.now (inquiry_of c.args.inquiry) _ _ c.in-Refused.answer opens.1 opens.2

pub returns-in-Headless-clause-answers : goal.returns-in-Headless-clause-answers
returns-in-Headless-clause-answers g c =
    let opens = rw (c.in-Headless.is) at c.in_ok-typed.ensures.opens in
    moved_from (λ files. DueForTrace files c.args.name.now (inquiry_of c.args.inquiry)) (g.S.Shelf.held c.args.shelf.now) _ _ _ _ c.answer_by_reading.result c.open_pages.ensures.files_stay opens
    (from_clauses (λ files. DueForTrace files c.args.name.now (inquiry_of c.args.inquiry)) _ _ _ c.answer_by_reading.result c.answer_by_reading.ensures.due c.answer_by_reading.ensures.causes)

pub returns-in-Headless-clause-by_run : goal.returns-in-Headless-clause-by_run
returns-in-Headless-clause-by_run g c =
    moved_run (g.S.Shelf.held c.args.shelf.now) _ c.args.name.now (inquiry_of c.args.inquiry) c.answer_by_reading.result c.open_pages.ensures.files_stay c.answer_by_reading.ensures.by_run
