use Rattle.std.proofs.Common.{List, ℕ, subst}
use Rattle.std.specs.Prelude.{map}
use Rattle.wy_kernel.specs.View.{class_of}
use Rattle.wy_table.specs.Above.{AreRows}
use Rattle.wy_table.specs.Hierarchy.{rows_of}
use Rattle.wy_table.proofs.Listed.{keeps}
use Rattle.wy_table.proofs.Rows.{numbered_as}
use Rattle.wy_table.proofs.hierarchy.hierarchy_of.Goals as goal

pub returns : goal.returns
unfolding rows_of
returns c =
    let classes = map class_of c.args.classes.now in
    let rows = c.in_ok-rows.rows.items in
    let P : List ℕ → Type 0 = λ ns. AreRows classes ns (map (λ row. row.items) rows) in
    keeps (λ row. row.items) classes c.in_ok-numbers.numbers.items rows c.requires.among (numbered_as class_of c.args.classes.now c.in_ok-numbers.numbers.items c.in_ok-numbers.ensures)
    (subst P c.as_slice-3.ensures.value c.in_ok-rows.ensures)
