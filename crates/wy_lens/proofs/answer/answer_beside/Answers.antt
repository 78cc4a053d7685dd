use Rattle.std.proofs.Common.{arith}
use Rattle.wy_kernel.specs.Limits.{trace_limit}
use Rattle.wy_lens.specs.Due.{DueForFile}
use Rattle.wy_lens.specs.Pairs.{DueForPair}
use Rattle.wy_lens.specs.Statuses.{code_of}
use Rattle.wy_lens.specs.Texts.{too_long_line}
use Rattle.wy_lens.specs.declared.answer.Answer.{Answer}
use Rattle.wy_lens.specs.declared.status.Status.TheVariants.{TooLong}
use Rattle.wy_lens.proofs.Said.{said_asked, said_causes, said_of_file}
use Rattle.wy_lens.proofs.Sources.{content_answers, content_asked, content_causes, lacking_answers, lacking_asked, lacking_causes, too_long_due}
use Rattle.wy_lens.proofs.answer.answer_beside.Goals as goal

pub returns-in-Ok-clause-due : goal.returns-in-Ok-clause-due
returns-in-Ok-clause-due g c =
    said_of_file (λ files. DueForFile files c.args.other.now trace_limit (λ bytes. DueForPair c.args.trace.now bytes c.args.other.now c.args.beside)) _ TooLong (too_long_line c.args.other.now) _ _ c.too_long.result (λ e. cc)
    (too_long_due (λ bytes. DueForPair c.args.trace.now bytes c.args.other.now c.args.beside) _ c.args.other.now trace_limit c.in-Ok.bytes c.in-Ok.ensures.content (omega (arith, c.len.ensures, c.if-len.true))) c.in-Ok.ensures.failed c.too_long.ensures

pub returns-in-Ok-clause-causes : goal.returns-in-Ok-clause-causes
returns-in-Ok-clause-causes g c =
    said_causes TooLong (too_long_line c.args.other.now) _ _ _ _ c.too_long.result (λ e. absurd cc) (λ _. c.in-Ok.ensures.full.0 (omega (arith, c.len.ensures, c.if-len.true, c.in-Ok.ensures.bound))) c.too_long.ensures

pub returns-in-Ok-clause-asked : goal.returns-in-Ok-clause-asked
returns-in-Ok-clause-asked g c = said_asked TooLong (too_long_line c.args.other.now) c.too_long.result (λ e. cc) c.too_long.ensures

pub returns-in-Ok-2-clause-due : goal.returns-in-Ok-2-clause-due
returns-in-Ok-2-clause-due g c =
    content_answers (λ bytes. DueForPair c.args.trace.now bytes c.args.other.now c.args.beside) _ c.args.other.now c.as_slice.result.now trace_limit c.in-Ok.bytes _ _ c.answer_to_pair.result c.in-Ok.ensures.content (omega (arith, c.len.ensures, c.if-len.false)) c.as_slice.ensures.value
    c.in-Ok.ensures.failed c.answer_to_pair.ensures

pub returns-in-Ok-2-clause-causes : goal.returns-in-Ok-2-clause-causes
returns-in-Ok-2-clause-causes g c = content_causes (λ (a : Answer). DueForPair c.args.trace.now c.as_slice.result.now c.args.other.now c.args.beside (code_of a.status) a.text.items) _ _ _ _ c.answer_to_pair.result c.answer_to_pair.ensures

pub returns-in-Ok-2-clause-asked : goal.returns-in-Ok-2-clause-asked
returns-in-Ok-2-clause-asked g c = content_asked (λ (a : Answer). DueForPair c.args.trace.now c.as_slice.result.now c.args.other.now c.args.beside (code_of a.status) a.text.items) c.answer_to_pair.result c.answer_to_pair.ensures

pub returns-in-Err-clause-due : goal.returns-in-Err-clause-due
returns-in-Err-clause-due g c = lacking_answers (λ bytes. DueForPair c.args.trace.now bytes c.args.other.now c.args.beside) _ c.args.other.now trace_limit c.in-Err.error _ _ c.lacking.result c.in-Err.ensures.content c.in-Err.ensures.failed c.lacking.ensures

pub returns-in-Err-clause-causes : goal.returns-in-Err-clause-causes
returns-in-Err-clause-causes g c = lacking_causes c.args.other.now c.in-Err.error _ _ _ _ c.lacking.result c.in-Err.ensures.absent c.lacking.ensures

pub returns-in-Err-clause-asked : goal.returns-in-Err-clause-asked
returns-in-Err-clause-asked g c = lacking_asked c.args.other.now c.in-Err.error c.lacking.result c.lacking.ensures
