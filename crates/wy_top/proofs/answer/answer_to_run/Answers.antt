use Rattle.wy_words.specs.Views.{asked_of}
use Rattle.wy_top.proofs.AnswerLemmas.{run_answers, run_lack}
use Rattle.wy_top.proofs.answer.answer_to_run.Goals as goal

pub returns-in-Ok-clause-due : goal.returns-in-Ok-clause-due
returns-in-Ok-clause-due g c = λ k.
    run_answers _ (asked_of c.args.asked) _ c.in-Ok.field-0 _ _ _ _ k c.run_source.result c.in-Ok.ensures.content c.in-Ok.ensures.fault c.as_slice.ensures.value c.as_slice-in-Ok.ensures.value
    c.run_source.ensures.due c.run_source.ensures.settled

pub returns-in-Err-clause-due : goal.returns-in-Err-clause-due
returns-in-Err-clause-due g c = λ k.
    run_lack _ (asked_of c.args.asked) _ c.in-Err.error _ _ k c.answer_to_lack.result c.in-Err.ensures.content c.in-Err.ensures.fault c.answer_to_lack.ensures
