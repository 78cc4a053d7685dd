use Rattle.std.proofs.Common.{◌≡◌, ◌+◌, sym, subst, true, Err}
use Rattle.wy_kernel.specs.Limits.{trace_limit}
use Rattle.wy_top.specs.Reads.{GivesFile}
use Rattle.wy_top.specs.declared.files.FileError.{FileError}
use Rattle.wy_top.proofs.Paging.{lacking, long_one, reach_lacks}
use Rattle.wy_top.proofs.files.check_length.Goals as goal

pub returns-in-Ok-true-clause-content : goal.returns-in-Ok-true-clause-content
returns-in-Ok-true-clause-content g c =
    let test = c.in-Ok-true.field-0-test in
    let same : c.in-Ok-true.field-0 ≡ true = cc in
    long_one (g.S.Shelf.held c.args.shelf.now) c.args.name trace_limit (rw (same) at c.in-Ok-true.ensures.content)

pub returns-in-Err-clause-content : goal.returns-in-Err-clause-content
returns-in-Err-clause-content g c =
    let held = g.S.Shelf.held c.args.shelf.now in
    subst (λ (e : FileError). GivesFile held c.args.name.now trace_limit (Err e)) (sym c.lack.ensures) (lacking held c.args.name trace_limit c.in-Err.error (reach_lacks held c.args.name.now (trace_limit + 1) c.in-Err.error c.in-Err.ensures.content))
