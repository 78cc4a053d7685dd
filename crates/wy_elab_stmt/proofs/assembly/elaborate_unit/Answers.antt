use Rattle.std.proofs.Common.{◌≡◌, ◌∙◌, length, map, rules}
use Rattle.std.proofs.lemmas.Result.{err_from_is_err_and}
use Rattle.wy_table.specs.ClassTable.{table_of}
use Rattle.wy_syntax.specs.View.{declaration_of}
use Rattle.wy_elab_stmt.specs.Whole.{made_view}
use Rattle.wy_elab_stmt.proofs.Programs.{program_made, main_stops}
use Rattle.wy_elab_stmt.proofs.assembly.elaborate_unit.Goals as goal

pub returns-in_err-main-clause-program : goal.returns-in_err-main-clause-program
returns-in_err-main-clause-program c = λ j s.
    let p = err_from_is_err_and c.from_residual-in_err-main.result c.from_residual-in_err-main.ensures.1 in
    let many : c.len.result ≡ length c.args.lines.items = search rules in
    rw (p.1, p.2) (main_stops j (table_of c.args.table) (map declaration_of c.args.unit.now) (length c.args.lines.items) c.len.result (made_view c.in_ok-made.made) _ many (c.in_ok-made.ensures j s) c.in_err-main.ensures)

pub returns-clause-program : goal.returns-clause-program
returns-clause-program c = λ j s.
    let many : c.len.result ≡ length c.args.lines.items = search rules in
    program_made j (table_of c.args.table) (map declaration_of c.args.unit.now) (length c.args.lines.items) c.len.result c.in_ok-main.main (made_view c.in_ok-made.made) c.in_ok-statements.statements c.as_slice.result.now _
    many (c.in_ok-made.ensures j s) c.in_ok-main.ensures (c.as_slice.ensures.value ∙ c.in_ok-places.ensures) c.in_ok-statements.ensures c.in_ok-program_from.ensures.program
