use Rattle.std.proofs.Common.{arith}
use Rattle.wy_kernel.specs.Limits.{source_limit}
use Rattle.wy_lens.specs.Due.{DueFor, DueForSource}
use Rattle.wy_lens.specs.Statuses.{code_of}
use Rattle.wy_lens.specs.Texts.{too_long_line}
use Rattle.wy_lens.specs.declared.answer.Answer.{Answer}
use Rattle.wy_lens.specs.declared.status.Status.TheVariants.{TooLong}
use Rattle.wy_lens.proofs.Said.{said_asked, said_causes, said_of_file}
use Rattle.wy_lens.proofs.Sources.{content_answers, content_asked, content_causes, lacking_answers, lacking_asked, lacking_causes, too_long_due}
use Rattle.wy_lens.proofs.answer.answer_to_file.Goals as goal

pub returns-in-Ok-clause-due : goal.returns-in-Ok-clause-due
returns-in-Ok-clause-due g c =
    said_of_file (λ files. DueForSource files c.args.name.now) _ TooLong (too_long_line c.args.name.now) _ _ c.too_long.result (λ e. cc)
    (too_long_due (DueFor c.args.name.now) _ c.args.name.now source_limit c.in-Ok.source c.in-Ok.ensures.content (omega (arith, c.len.ensures, c.if-len.true))) c.in-Ok.ensures.failed c.too_long.ensures

pub returns-in-Ok-clause-causes : goal.returns-in-Ok-clause-causes
returns-in-Ok-clause-causes g c =
    said_causes TooLong (too_long_line c.args.name.now) _ _ _ _ c.too_long.result (λ e. absurd cc) (λ _. c.in-Ok.ensures.full.0 (omega (arith, c.len.ensures, c.if-len.true, c.in-Ok.ensures.bound))) c.too_long.ensures

pub returns-in-Ok-clause-asked : goal.returns-in-Ok-clause-asked
returns-in-Ok-clause-asked g c = said_asked TooLong (too_long_line c.args.name.now) c.too_long.result (λ e. cc) c.too_long.ensures

pub returns-in-Ok-2-clause-due : goal.returns-in-Ok-2-clause-due
returns-in-Ok-2-clause-due g c =
    content_answers (DueFor c.args.name.now) _ c.args.name.now c.as_slice.result.now source_limit c.in-Ok.source _ _ c.answer_to_source.result c.in-Ok.ensures.content (omega (arith, c.len.ensures, c.if-len.false)) c.as_slice.ensures.value
    c.in-Ok.ensures.failed c.answer_to_source.ensures

pub returns-in-Ok-2-clause-causes : goal.returns-in-Ok-2-clause-causes
returns-in-Ok-2-clause-causes g c = content_causes (λ (a : Answer). DueFor c.args.name.now c.as_slice.result.now (code_of a.status) a.text.items) _ _ _ _ c.answer_to_source.result c.answer_to_source.ensures

pub returns-in-Ok-2-clause-asked : goal.returns-in-Ok-2-clause-asked
returns-in-Ok-2-clause-asked g c = content_asked (λ (a : Answer). DueFor c.args.name.now c.as_slice.result.now (code_of a.status) a.text.items) c.answer_to_source.result c.answer_to_source.ensures

pub returns-in-Err-clause-due : goal.returns-in-Err-clause-due
returns-in-Err-clause-due g c = lacking_answers (DueFor c.args.name.now) _ c.args.name.now source_limit c.in-Err.error _ _ c.lacking.result c.in-Err.ensures.content c.in-Err.ensures.failed c.lacking.ensures

pub returns-in-Err-clause-causes : goal.returns-in-Err-clause-causes
returns-in-Err-clause-causes g c = lacking_causes c.args.name.now c.in-Err.error _ _ _ _ c.lacking.result c.in-Err.ensures.absent c.lacking.ensures

pub returns-in-Err-clause-asked : goal.returns-in-Err-clause-asked
returns-in-Err-clause-asked g c = lacking_asked c.args.name.now c.in-Err.error c.lacking.result c.lacking.ensures
