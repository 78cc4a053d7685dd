use Rattle.wy_session.proofs.Desks.{scene_kept}
use Rattle.wy_session.proofs.Fewer.{closed_over, reads_out_over}
use Rattle.wy_session.proofs.Talking.{nothing_closed, nothing_reads}
use Rattle.wy_session.proofs.desk.explore_indexed.Goals as goal

pub returns-in-Err-clause-closed : goal.returns-in-Err-clause-closed
returns-in-Err-clause-closed g c = nothing_closed _ _ _ _ _ c.in-Err.error c.from.result c.from.ensures

pub returns-clause-closed : goal.returns-clause-closed
returns-clause-closed g c =
    closed_over _ _ _ _ _ _ c.explore_opened.result.1 (λ x is. scene_kept c.args.program.now c.args.coverage.now _ _ x c.of.ensures.keeps is) c.explore_opened.ensures.closed

pub returns-in-Err-clause-read_out : goal.returns-in-Err-clause-read_out
returns-in-Err-clause-read_out g c = nothing_reads _ _ _ c.in-Err.error c.from.result c.from.ensures

pub returns-clause-read_out : goal.returns-clause-read_out
returns-clause-read_out g c =
    reads_out_over _ _ _ _ c.explore_opened.result.1 (λ x is. scene_kept c.args.program.now c.args.coverage.now _ _ x c.of.ensures.keeps is) c.explore_opened.ensures.read_out
