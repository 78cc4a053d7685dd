use Rattle.std.proofs.Common.{◌∙◌, subst, Option}
use Rattle.wy_outside.specs.Shelf.{Files}
use Rattle.wy_top.specs.Paging.{GivesFirst}
use Rattle.wy_top.proofs.Paging.{front_of}
use Rattle.wy_top.proofs.files.read_front.Goals as goal

pub returns-clause-content : goal.returns-clause-content
returns-clause-content g c =
    let held = g.S.Shelf.held c.args.shelf.now in
    let name = c.args.name.now in
    let read = subst (λ (h : Option Files). GivesFirst h name c.front_length.result c.read_first-2.result) (c.read_first.ensures.files_stay ∙ c.check_length.ensures.files_stay) c.read_first-2.ensures.content in
    front_of held name c.front_length.result c.read_first-2.result c.in_ok-check_length.ensures.content read
