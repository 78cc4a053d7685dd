use Rattle.std.proofs.Common.{◌<◌, length, Some, ap, sym, ◌∙◌, arith}
use Rattle.std.specs.Prelude.{option_map}
use Rattle.wy_table.specs.ClassTable.{table_of}
use Rattle.wy_kernel.specs.Table.{constant_value}
use Rattle.wy_table.proofs.Counts.{constants_of_fields}
use Rattle.wy_kernel.proofs.Indexed.{mapped, constant_seen}
use Rattle.wy_table.proofs.table.ClassTable.field_constant.Goals as goal

pub returns : goal.returns
unfolding table_of
returns c =
    let many = constants_of_fields c.args.self.now.classes.items c.args.self.now.methods.items c.args.self.now.fields.items c.args.self.now.constants.items c.args.self.now.is_table in
    let within : c.args.n < length c.args.self.now.constants.items = omega (arith, many) in
    mapped (option_map constant_value) c.args.self.now.constants.items c.args.n c.index.result.now within c.index.ensures
    ∙ ap Some (sym (constant_seen c.as_ref.result ∙ ap (option_map constant_value) c.as_ref.ensures.value))
