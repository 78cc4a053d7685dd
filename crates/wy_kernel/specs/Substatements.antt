-- The statements that a form immediately contains, as they come one after another.
use Rattle.std.specs.Prelude.{List, ◌++◌, map}
use Rattle.std.specs.Borrow.{Bor}
use Rattle.wy_kernel.specs.declared.form.Stmt.{Stmt}
use Rattle.wy_kernel.specs.declared.form.Catch.{Catch}
use Rattle.wy_kernel.specs.declared.substatement.Substatements.{Substatements}
use Rattle.wy_kernel.specs.Form.{Statement}
use Rattle.wy_kernel.specs.View.{statement}

abbrev pub statement_seen : Bor Stmt → Statement
statement_seen s = statement s.now

abbrev pub statements_seen : List (Bor Stmt) → List Statement
statements_seen xs = map statement_seen xs

abbrev pub block_of : Catch → Statement
block_of c = statement c.block

abbrev pub to_come : Substatements → List Statement
to_come s = map statement s.row.now ++ (map block_of s.catches.now ++ (map statement s.next_row.now ++ map statement s.last_row.now))
