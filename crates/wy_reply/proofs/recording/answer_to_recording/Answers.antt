use Rattle.std.proofs.Common.{◌∙◌}
use Rattle.wy_reply.proofs.Reports.{held_whole, records}
use Rattle.wy_reply.proofs.recording.answer_to_recording.Goals as goal

pub returns-in_ok-text-in-Ok-clause-records : goal.returns-in_ok-text-in-Ok-clause-records
returns-in_ok-text-in-Ok-clause-records g c = records _ c.args.program.now c.args.head.now c.in-Ok.ended _ _ _ _ c.done.result c.in-Ok.ensures.ended c.requires.steps c.in-Ok.ensures.fits c.end_fits.ensures c.in-Ok.ensures.mirrors c.in-Ok.ensures.faults c.done.ensures.status (c.done.ensures.text ∙ c.in_ok-text-in-Ok.ensures)

pub returns-in_ok-text-in-Ok-clause-held : goal.returns-in_ok-text-in-Ok-clause-held
returns-in_ok-text-in-Ok-clause-held g c = held_whole _ _ c.args.head.now c.in-Ok.ended _ _ _ c.in-Ok.ensures.ended c.requires.steps c.in-Ok.ensures.fits c.end_fits.ensures c.in-Ok.ensures.mirrors c.in-Ok.ensures.phase

pub returns-in_err-text-in-Ok-clause-held : goal.returns-in_err-text-in-Ok-clause-held
returns-in_err-text-in-Ok-clause-held g c = held_whole _ _ c.args.head.now c.in-Ok.ended _ _ _ c.in-Ok.ensures.ended c.requires.steps c.in-Ok.ensures.fits c.end_fits.ensures c.in-Ok.ensures.mirrors c.in-Ok.ensures.phase
