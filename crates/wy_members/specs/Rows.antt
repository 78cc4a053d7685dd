-- The classes, methods and fields of a program in memory.
use Rattle.std.specs.Prelude.{◌≡◌, ◌<◌, map, length}
use Rattle.wy_kernel.specs.Builtin.{no_site}
use Rattle.wy_kernel.specs.View.{class_of, method_of, field_of}
use Rattle.wy_members.specs.declared.rows.Rows as memory
use Rattle.wy_members.specs.Declarations.{CompilationUnit, table}

-- they are those of the unit's table, and each has a number
pub record AreRows (unit : CompilationUnit) (rows : memory.Rows) : Type 0 where
  pub classes : map class_of rows.classes.items ≡ (table unit).classes
  pub methods : map method_of rows.methods.items ≡ (table unit).methods
  pub fields : map field_of rows.fields.items ≡ (table unit).fields
  pub few_classes : length rows.classes.items < no_site
  pub few_methods : length rows.methods.items < no_site
  pub few_fields : length rows.fields.items < no_site
