use Rattle.std.proofs.Common.{◌∙◌}
use Rattle.wy_reply.proofs.ByRun.{known, under_run, under_source}
use Rattle.wy_reply.proofs.Seals.{sealed_end}
use Rattle.wy_reply.proofs.Tellings.{told_under}
use Rattle.wy_reply.proofs.telling.answer_to_trace.Goals as goal

pub seal_of-requires : goal.seal_of-requires
seal_of-requires c = (sealed_end c.traces_are_spelled.ensures c.args.program.now c.args.bytes.now c.args.trace c.requires.decoded).0

pub returns-clause-due : goal.returns-clause-due
returns-clause-due c =
    let seal = c.seal_of.ensures ∙ (sealed_end c.traces_are_spelled.ensures c.args.program.now c.args.bytes.now c.args.trace c.requires.decoded).1 in
    told_under _ c.args.bytes.now _ c.args.trace _ c.requires.decoded.reads (rw (seal) at c.tell.ensures.due)

pub returns-clause-by_run : goal.returns-clause-by_run
returns-clause-by_run c =
    let is = c.requires.decoded in
    under_run
    (known c.recorded_traces_are_read_back.ensures.whole c.recorded_heads_are_read_back.ensures c.recorded_ends_are_read_back.ensures.whole c.references_point_below.ensures.records c.carrying_changes_nothing.ensures.events c.backward_is_forward.ensures.events c.backward_is_forward.ensures.stored)
    _ c.args.bytes.now _ _ c.args.trace _ is.are_bytes is.short c.end_fits.ensures is.reads c.tell.ensures.due

pub returns-clause-source : goal.returns-clause-source
returns-clause-source c =
    let is = c.requires.decoded in
    under_source
    (known c.recorded_traces_are_read_back.ensures.whole c.recorded_heads_are_read_back.ensures c.recorded_ends_are_read_back.ensures.whole c.references_point_below.ensures.records c.carrying_changes_nothing.ensures.events c.backward_is_forward.ensures.events c.backward_is_forward.ensures.stored)
    _ c.args.bytes.now c.args.trace c.tell.result is.are_bytes is.short is.reads
