use Rattle.wy_words.specs.Views.{asked_of}
use Rattle.wy_top.proofs.AnswerLemmas.{record_answers, record_traces, run_lack}
use Rattle.wy_top.proofs.LeftLemmas.{lack_finishes, run_finishes, run_left, some_untouched, unstarted_untouched}
use Rattle.wy_top.proofs.answer.answer_to_record.Goals as goal

pub returns-in-Ok-clause-due : goal.returns-in-Ok-clause-due
returns-in-Ok-clause-due g c =
    record_answers _ _ (asked_of c.args.asked) c.in-Ok.contents _ _ _ _ _ _ c.record_source.result c.in-Ok.ensures.content c.in-Ok.ensures.fault c.record_source.ensures.records

pub returns-in-Ok-clause-traced : goal.returns-in-Ok-clause-traced
returns-in-Ok-clause-traced g c = record_traces _ _ (asked_of c.args.asked) c.in-Ok.contents _ _ _ _ c.record_source.result c.in-Ok.ensures.content c.record_source.ensures.records

pub returns-in-Ok-clause-left : goal.returns-in-Ok-clause-left
returns-in-Ok-clause-left g c = run_left _ _ (asked_of c.args.asked) c.in-Ok.contents _ _ _ c.in-Ok.ensures.content c.record_source.ensures.left

pub returns-in-Err-clause-due : goal.returns-in-Err-clause-due
returns-in-Err-clause-due g c = run_lack _ (asked_of c.args.asked) _ c.in-Err.error _ _ _ c.answer_to_lack.result c.in-Err.ensures.content c.in-Err.ensures.fault c.answer_to_lack.ensures

pub returns-in-Ok-clause-left_some : goal.returns-in-Ok-clause-left_some
returns-in-Ok-clause-left_some g c = (c.in-Ok.contents.source.items, c.in-Ok.contents.input.items, _, c.record_source.ensures.left)

pub returns-in-Ok-clause-finishes : goal.returns-in-Ok-clause-finishes
returns-in-Ok-clause-finishes g c = run_finishes _ (asked_of c.args.asked) c.in-Ok.contents _ _ _ _ _ c.record_source.result c.in-Ok.ensures.content c.record_source.ensures.finishes

pub returns-in-Err-clause-left_some : goal.returns-in-Err-clause-left_some
returns-in-Err-clause-left_some g c = some_untouched _ _ _ c.requires.ready

pub returns-in-Err-clause-finishes : goal.returns-in-Err-clause-finishes
returns-in-Err-clause-finishes g c = lack_finishes _ (asked_of c.args.asked) c.in-Err.error _ _ _ _ _ c.answer_to_lack.result c.in-Err.ensures.content c.in-Err.ensures.fault c.answer_to_lack.ensures

pub returns-in-Err-clause-unstarted : goal.returns-in-Err-clause-unstarted
returns-in-Err-clause-unstarted g c = unstarted_untouched _ c.answer_to_lack.result
