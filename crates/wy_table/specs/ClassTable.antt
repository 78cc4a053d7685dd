-- A class table in memory as contracts see it.
use Rattle.wy_table.specs.declared.table.ClassTable.{ClassTable}
use Rattle.wy_kernel.specs.Table.{Table, table_with}

unfoldable pub table_of : ClassTable → Table
table_of t = table_with t.classes.items t.methods.items t.fields.items t.constants.items
