use Rattle.std.proofs.Common.{map}
use Rattle.std.proofs.Math.Logic.{∥∥₁_elim}
use Rattle.std.proofs.Props.{props}
use Rattle.wy_kernel.specs.View.{class_of, field_of}
use Rattle.wy_table.specs.ClassTable.{table_of}
use Rattle.wy_table.proofs.FirstNumbers.{in_range_or_nowhere}
use Rattle.wy_table.proofs.table.ClassTable.field_number.Goals as goal

pub returns : goal.returns
unfolding table_of
returns c =
    let t = c.args.self.now in
    ∥∥₁_elim t.keeps_names (hlevel props) (λ keeps. ∥∥₁_elim t.is_table (hlevel props) (λ is.
    in_range_or_nowhere (map class_of t.classes.items) (map field_of t.fields.items) c.args.class c.args.name.now c.field.result is.fields_in_range
    (c.field.ensures.found (map class_of t.classes.items) (map field_of t.fields.items) keeps)
    (c.field.ensures.past (map class_of t.classes.items) (map field_of t.fields.items) keeps)))
