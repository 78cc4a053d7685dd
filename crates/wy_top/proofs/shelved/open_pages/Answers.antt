use Rattle.std.proofs.Common.{sym, subst, Option}
use Rattle.wy_outside.specs.Shelf.{Files}
use Rattle.wy_top.specs.Paging.{BeginsFile}
use Rattle.wy_top.proofs.Paging.{in_place, lacking_any}
use Rattle.wy_top.proofs.shelved.open_pages.Goals as goal

pub returns-in-Err-clause-opens : goal.returns-in-Err-clause-opens
returns-in-Err-clause-opens g c =
    let answer = c.in_ok-answer_to_lack-in-Err.field-0 in
    in_place _ _ _ _ answer (lacking_any (g.S.Shelf.held c.args.shelf.now) c.args.name.now c.in-Err.error _ _ answer c.in-Err.ensures.content c.in-Err.ensures.fault c.in-Err.ensures.absent c.in-Err.ensures.too_long c.in_ok-answer_to_lack-in-Err.ensures)

pub open_by_head-requires-clause-front : goal.open_by_head-requires-clause-front
open_by_head-requires-clause-front g c =
    rw (c.as_slice-front.ensures.value) (subst (λ (h : Option Files). BeginsFile h c.args.name.now c.in-Ok.front.items) (sym c.read_front.ensures.files_stay) c.in-Ok.ensures.content)
