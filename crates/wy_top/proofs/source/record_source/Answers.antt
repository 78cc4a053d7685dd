use Rattle.std.proofs.Common.{refl}
use Rattle.wy_top.proofs.LeftLemmas.{refused_finishes, settled_untouched, source_finishes, source_left, source_settled, source_started, source_untouched, unstarted_untouched}
use Rattle.wy_top.proofs.Replies.{recorded_due, unrecorded_due}
use Rattle.wy_top.proofs.source.record_source.Goals as goal

pub returns-in-Ok-clause-records : goal.returns-in-Ok-clause-records
returns-in-Ok-clause-records g c = recorded_due _ _ _ _ c.in-Ok.typed.program _ _ _ _ _ c.answer_to_recording.result (rw (c.as_slice.ensures.value) at c.in-Ok.ensures.program) c.new-in-Ok.ensures c.new.ensures refl c.answer_to_recording.ensures.records

pub returns-in-Ok-clause-left : goal.returns-in-Ok-clause-left
returns-in-Ok-clause-left g c = source_left _ _ _ _ c.in-Ok.typed.program _ _ _ _ (rw (c.as_slice.ensures.value) at c.in-Ok.ensures.program) c.new-in-Ok.ensures c.new.ensures refl c.answer_to_recording.ensures.held

pub returns-in-Ok-clause-settled : goal.returns-in-Ok-clause-settled
returns-in-Ok-clause-settled g c = source_settled _ c.in-Ok.typed.program _ _ _ _ _ _ c.answer_to_recording.result c.answer_to_recording.ensures.records c.answer_to_recording.ensures.finished

pub returns-in-Err-clause-records : goal.returns-in-Err-clause-records
returns-in-Err-clause-records g c = unrecorded_due _ _ _ _ c.in-Err.error _ _ c.answer_to_error.result (rw (c.as_slice.ensures.value) at c.in-Err.ensures.refused) c.answer_to_error.ensures

pub returns-in-Err-clause-left : goal.returns-in-Err-clause-left
returns-in-Err-clause-left g c = source_untouched _ _ _ c.requires.ready _ _ _

pub returns-in-Err-clause-settled : goal.returns-in-Err-clause-settled
returns-in-Err-clause-settled g c = settled_untouched _ _ c.answer_to_error.result c.requires.ready

pub returns-in-Ok-clause-finishes : goal.returns-in-Ok-clause-finishes
returns-in-Ok-clause-finishes g c = source_finishes _ c.in-Ok.typed.program _ _ _ _ _ _ _ c.answer_to_recording.result c.answer_to_recording.ensures.records c.answer_to_recording.ensures.finished

pub returns-in-Ok-clause-unstarted : goal.returns-in-Ok-clause-unstarted
returns-in-Ok-clause-unstarted g c = source_started _ _ c.in-Ok.typed.program _ _ _ _ _ c.answer_to_recording.result c.answer_to_recording.ensures.records

pub returns-in-Err-clause-finishes : goal.returns-in-Err-clause-finishes
returns-in-Err-clause-finishes g c = refused_finishes c.programs_are_not_refused.ensures _ c.in-Err.error _ _ _ c.answer_to_error.result (rw (c.as_slice.ensures.value) at c.in-Err.ensures.refused) c.answer_to_error.ensures

pub returns-in-Err-clause-unstarted : goal.returns-in-Err-clause-unstarted
returns-in-Err-clause-unstarted g c = unstarted_untouched _ c.answer_to_error.result
