use Rattle.std.proofs.Common.{sym, ◌∙◌}
use Rattle.std.specs.Prelude.{None as Absent}
use Rattle.std.proofs.lemmas.List.{get_or_read}
use Rattle.wy_heap.proofs.Rows.{known_inside, row_of}
use Rattle.wy_heap.proofs.layout.Layouts.fields_in_row.Goals as goal

pub returns-clause-placed : goal.returns-clause-placed
returns-clause-placed c =
    let inside = known_inside c.args.self.now.rows.items c.args.class c.requires in
    let found = sym (get_or_read c.args.self.now.rows.items c.args.class c.index.result.now inside c.index.ensures Absent) ∙ c.in-Some.is in
    rw c.deref.ensures.value (row_of c.args.self.now c.args.class c.in-Some.row found).placed
