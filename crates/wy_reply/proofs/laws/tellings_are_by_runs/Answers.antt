use Rattle.wy_reply.proofs.ByRun.{by_runs, known}
use Rattle.wy_reply.proofs.laws.tellings_are_by_runs.Goals as goal

pub returns : goal.returns
returns c =
    by_runs (known c.recorded_traces_are_read_back.ensures.whole c.recorded_heads_are_read_back.ensures c.recorded_ends_are_read_back.ensures.whole c.references_point_below.ensures.records c.carrying_changes_nothing.ensures.events c.backward_is_forward.ensures.events c.backward_is_forward.ensures.stored)
