use Rattle.std.proofs.Common.{arith}
use Rattle.wy_kernel.specs.Limits.{trace_limit}
use Rattle.wy_lens.specs.Due.{DueForFile, DueForFiles}
use Rattle.wy_lens.specs.Pairs.{DueForPair}
use Rattle.wy_lens.specs.Texts.{too_long_line}
use Rattle.wy_lens.specs.declared.status.Status.TheVariants.{TooLong}
use Rattle.wy_lens.proofs.Said.{said_asked, said_causes, said_of_file}
use Rattle.wy_lens.proofs.Sources.{beside_answers, causes_on, lacking_answers_by, lacking_asked, lacking_causes, too_long_due}
use Rattle.wy_lens.proofs.answer.answer_to_files.Goals as goal

pub returns-in-Ok-clause-due : goal.returns-in-Ok-clause-due
returns-in-Ok-clause-due g c =
    said_of_file (λ files. DueForFiles c.args.beside files c.args.trace.now c.args.other.now) _ TooLong (too_long_line c.args.trace.now) _ _ c.too_long.result (λ e. cc)
    (λ files. too_long_due (λ first. DueForFile files c.args.other.now trace_limit (λ second. DueForPair first second c.args.other.now c.args.beside)) _ c.args.trace.now trace_limit c.in-Ok.bytes c.in-Ok.ensures.content (omega (arith, c.len.ensures, c.if-len.true)) files)
    c.in-Ok.ensures.failed c.too_long.ensures

pub returns-in-Ok-clause-causes : goal.returns-in-Ok-clause-causes
returns-in-Ok-clause-causes g c =
    said_causes TooLong (too_long_line c.args.trace.now) _ _ _ _ c.too_long.result (λ e. absurd cc) (λ _. c.in-Ok.ensures.full.0 (omega (arith, c.len.ensures, c.if-len.true, c.in-Ok.ensures.bound))) c.too_long.ensures

pub returns-in-Ok-clause-asked : goal.returns-in-Ok-clause-asked
returns-in-Ok-clause-asked g c = said_asked TooLong (too_long_line c.args.trace.now) c.too_long.result (λ e. cc) c.too_long.ensures

pub returns-in-Ok-2-clause-due : goal.returns-in-Ok-2-clause-due
returns-in-Ok-2-clause-due g c =
    beside_answers _ _ c.args.trace.now c.args.other.now c.as_slice.result.now trace_limit (λ first second. DueForPair first second c.args.other.now c.args.beside) c.in-Ok.bytes _ _ _ c.answer_beside.result c.in-Ok.ensures.content (omega (arith, c.len.ensures, c.if-len.false))
    c.as_slice.ensures.value c.in-Ok.ensures.failed c.in-Ok.ensures.files_stay c.answer_beside.ensures.due

pub returns-in-Ok-2-clause-causes : goal.returns-in-Ok-2-clause-causes
returns-in-Ok-2-clause-causes g c =
    causes_on _ _ _ _ _ _ c.answer_beside.result c.in-Ok.ensures.absent (c.in-Ok.ensures.full.1 (omega (arith, c.len.ensures, c.if-len.false))) c.answer_beside.ensures.causes

pub returns-in-Err-clause-due : goal.returns-in-Err-clause-due
returns-in-Err-clause-due g c =
    lacking_answers_by (λ files first. DueForFile files c.args.other.now trace_limit (λ second. DueForPair first second c.args.other.now c.args.beside)) _ c.args.trace.now trace_limit c.in-Err.error _ _ c.lacking.result c.in-Err.ensures.content c.in-Err.ensures.failed c.lacking.ensures

pub returns-in-Err-clause-causes : goal.returns-in-Err-clause-causes
returns-in-Err-clause-causes g c = lacking_causes c.args.trace.now c.in-Err.error _ _ _ _ c.lacking.result c.in-Err.ensures.absent c.lacking.ensures

pub returns-in-Err-clause-asked : goal.returns-in-Err-clause-asked
returns-in-Err-clause-asked g c = lacking_asked c.args.trace.now c.in-Err.error c.lacking.result c.lacking.ensures
