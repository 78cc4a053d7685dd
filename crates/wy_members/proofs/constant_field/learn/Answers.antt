use Rattle.std.proofs.Common.{Some, arith}
use Rattle.std.specs.Prelude.{option_map}
use Rattle.std.proofs.lemmas.List.{length-map, map-set}
use Rattle.wy_table.specs.ClassTable.{table_of}
use Rattle.wy_kernel.specs.Table.{constant_value}
use Rattle.wy_kernel.specs.View.{field_of}
use Rattle.wy_table.proofs.Counts.{constants_of_fields}
use Rattle.wy_members.proofs.Learning.{still_table}
use Rattle.wy_members.proofs.constant_field.learn.Goals as goal

pub index_mut-requires : goal.index_mut-requires
unfolding table_of
index_mut-requires c =
    let t = c.args.table.now in
    let many = constants_of_fields t.classes.items t.methods.items t.fields.items t.constants.items t.is_table in
    let h = c.requires in
    omega (arith, many, length-map t.fields.items field_of)

pub invariant_of-table-clause-is_table : goal.invariant_of-table-clause-is_table
invariant_of-table-clause-is_table c =
    let t = c.args.table.now in
    still_table t.classes.items t.methods.items t.fields.items t.constants.items c.args.field (Some c.args.value) t.is_table

pub returns-clause-same : goal.returns-clause-same
unfolding table_of
returns-clause-same c = simp map-set

pub returns-clause-within : goal.returns-clause-within
unfolding table_of
returns-clause-within c =
    let t = c.args.table.now in
    let many = constants_of_fields t.classes.items t.methods.items t.fields.items t.constants.items t.is_table in
    let h = c.requires in
    omega (arith, many, length-map t.fields.items field_of, length-map t.constants.items (option_map constant_value))
