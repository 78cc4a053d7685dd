-- The place is that of the block, and the name that of the file.
use Rattle.std.proofs.Common.{◌+◌, ◌-◌}
use Rattle.std.specs.Prelude.{slice_index, string_bytes}
use Rattle.wy_page.proofs.Parts.{same_part}
use Rattle.wy_page.proofs.pages.Pages.read.Goals as goal

pub returns-clause-content : goal.returns-clause-content
returns-clause-content g c =
    let p = c.args.self.now in
    let b = c.args.block in
    same_part (g.S.Shelf.held c.args.shelf.now) c.as_str.result.now (string_bytes p.name) c.place-place.result.from (slice_index p.starts.items b) c.place-place.result.len (slice_index p.starts.items (b + 1) - slice_index p.starts.items b) c.read_at.result c.as_str.ensures.value c.place-place.ensures.from c.place-place.ensures.len c.read_at.ensures.content
