use Rattle.std.proofs.Common.{sym, subst, Err}
use Rattle.wy_kernel.specs.Limits.{trace_limit}
use Rattle.wy_top.specs.Reads.{GivesFile}
use Rattle.wy_top.specs.declared.files.FileError.{FileError}
use Rattle.wy_top.proofs.Paging.{lacking, part_lacks}
use Rattle.wy_top.proofs.files.read_first.Goals as goal

pub returns-in-Err-clause-content : goal.returns-in-Err-clause-content
returns-in-Err-clause-content g c =
    let held = g.S.Shelf.held c.args.shelf.now in
    subst (λ (e : FileError). GivesFile held c.args.name.now trace_limit (Err e)) (sym c.lack.ensures) (lacking held c.args.name trace_limit c.in-Err.error (part_lacks held c.args.name.now 0 c.args.len c.in-Err.error c.in-Err.ensures.content))
