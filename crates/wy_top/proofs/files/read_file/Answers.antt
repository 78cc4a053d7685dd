use Rattle.std.proofs.Common.{◌+◌, sym, subst, Err}
use Rattle.wy_top.specs.Reads.{GivesFile}
use Rattle.wy_top.specs.declared.files.FileError.{FileError}
use Rattle.wy_top.proofs.FileReads.{long_file}
use Rattle.wy_top.proofs.Paging.{lacking, read_lacks}
use Rattle.wy_top.proofs.files.read_file.Goals as goal

pub returns-in-Ok-clause-content : goal.returns-in-Ok-clause-content
returns-in-Ok-clause-content g c = long_file _ c.args.name _ c.in-Ok.bytes c.in-Ok.ensures.content (rw c.len.ensures at c.if-len-limit.true)

pub returns-in-Err-clause-content : goal.returns-in-Err-clause-content
returns-in-Err-clause-content g c =
    let held = g.S.Shelf.held c.args.shelf.now in
    subst (λ (e : FileError). GivesFile held c.args.name.now c.args.limit (Err e)) (sym c.lack.ensures) (lacking held c.args.name c.args.limit c.in-Err.error (read_lacks held c.args.name.now (c.args.limit + 1) c.in-Err.error c.in-Err.ensures.content))
