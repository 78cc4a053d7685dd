use Rattle.wy_top.proofs.Fronts.{IsFront, front_short, headed, may_be_opened, sourceless_any}
use Rattle.wy_top.proofs.Paging.{in_place, paged_by, same_counts, untraced_any, unviewed_any}
use Rattle.wy_top.proofs.shelved.open_by_head.Goals as goal

pub program_of_source-requires : goal.program_of_source-requires
program_of_source-requires g c = rw (c.as_slice.ensures) (c.heads_are_short.ensures c.args.front.now c.args.head.now c.requires.head.0 c.args.version c.requires.head.1)

pub open-requires-clause-short : goal.open-requires-clause-short
open-requires-clause-short g c =
    let f : IsFront c.args.front.now c.args.head.now c.args.version = record { fronts = c.fronts_begin_traces.ensures; are = c.are_bytes.ensures; end = c.requires.head.0; read = c.requires.head.1 } in
    front_short c.args.front.now c.args.head.now c.args.version f c.requires.short

pub open-requires-clause-file : goal.open-requires-clause-file
open-requires-clause-file g c =
    let f : IsFront c.args.front.now c.args.head.now c.args.version = record { fronts = c.fronts_begin_traces.ensures; are = c.are_bytes.ensures; end = c.requires.head.0; read = c.requires.head.1 } in
    may_be_opened (g.S.Shelf.held c.args.shelf.now) c.args.name.now c.args.front.now c.args.head.now c.args.version f c.requires.front

pub returns-in-Err-clause-opens : goal.returns-in-Err-clause-opens
returns-in-Err-clause-opens g c =
    let f : IsFront c.args.front.now c.args.head.now c.args.version = record { fronts = c.fronts_begin_traces.ensures; are = c.are_bytes.ensures; end = c.requires.head.0; read = c.requires.head.1 } in
    in_place _ _ _ _ c.in_ok-answer_to_error-in-Err.field-0
    (sourceless_any (g.S.Shelf.held c.args.shelf.now) c.args.name.now c.args.front.now c.args.head.now c.args.version c.in-Err.error _ c.in_ok-answer_to_error-in-Err.field-0 f c.requires.front (rw (c.as_slice.ensures) at c.in-Err.ensures.refused) c.in_ok-answer_to_error-in-Err.ensures)

pub returns-in-Ok-open-clause-opens : goal.returns-in-Ok-open-clause-opens
returns-in-Ok-open-clause-opens g c =
    let f : IsFront c.args.front.now c.args.head.now c.args.version = record { fronts = c.fronts_begin_traces.ensures; are = c.are_bytes.ensures; end = c.requires.head.0; read = c.requires.head.1 } in
    let held = g.S.Shelf.held c.args.shelf.now in
    let name = c.args.name.now in
    let p = c.in-Ok.typed.program in
    let counts = c.in-Ok-open.ensures.counts in (
      same_counts _ _ _ _ _ _ counts.0 counts.1 c.open.ensures.fulls,
      c.in-Ok-open.ensures.fits,
      paged_by c.traces_are_spelled.ensures held name p c.in-Ok-open.pages c.in-Ok-open.tail c.in-Ok-open.ensures.trace c.in-Ok-open.ensures.named c.end_fits.ensures
          (headed held name c.args.front.now c.args.head.now c.args.version p f c.requires.front (rw (c.as_slice.ensures) at c.in-Ok.ensures.program)),
    )

pub returns-in-Err-Trace-clause-opens : goal.returns-in-Err-Trace-clause-opens
returns-in-Err-Trace-clause-opens g c =
    let f : IsFront c.args.front.now c.args.head.now c.args.version = record { fronts = c.fronts_begin_traces.ensures; are = c.are_bytes.ensures; end = c.requires.head.0; read = c.requires.head.1 } in
    let held = g.S.Shelf.held c.args.shelf.now in
    let name = c.args.name.now in
    let p = c.in-Ok.typed.program in
    let answer = c.in_ok-answer_to_trace_error-in-Err-Trace.field-0 in
    let counts = rw (c.in-Err-Trace.field-0-is) at c.in-Err-Trace.ensures.counts in
    in_place _ _ _ _ answer
    (untraced_any held name p c.in-Err-Trace.error _ _ answer (rw (c.in-Err-Trace.field-0-is) at c.in-Err-Trace.ensures.trace) counts.0
    (headed held name c.args.front.now c.args.head.now c.args.version p f c.requires.front (rw (c.as_slice.ensures) at c.in-Ok.ensures.program)) c.in_ok-answer_to_trace_error-in-Err-Trace.ensures)

pub returns-clause-opens : goal.returns-clause-opens
returns-clause-opens g c =
    let f : IsFront c.args.front.now c.args.head.now c.args.version = record { fronts = c.fronts_begin_traces.ensures; are = c.are_bytes.ensures; end = c.requires.head.0; read = c.requires.head.1 } in
    let held = g.S.Shelf.held c.args.shelf.now in
    let name = c.args.name.now in
    let p = c.in-Ok.typed.program in
    let answer = c.in_ok-answer_to_refusal-in-Err-View.field-0 in
    in_place _ _ _ _ answer
    (unviewed_any held name p c.in-Err-View.error _ _ answer (rw (c.in-Err-View.field-0-is) at c.in-Err-View.ensures.trace) (rw (c.in-Err-View.field-0-is) at c.in-Err-View.ensures.counts)
    (headed held name c.args.front.now c.args.head.now c.args.version p f c.requires.front (rw (c.as_slice.ensures) at c.in-Ok.ensures.program)) c.in_ok-answer_to_refusal-in-Err-View.ensures)
