-- What the rules on declarations are judged on.
use Rattle.std.specs.Prelude.{◌≡◌, List, map}
use Rattle.std.specs.Borrow.{Bor}
use Rattle.wy_kernel.specs.declared.types.Method as memory_method
use Rattle.wy_kernel.specs.Table.{Table}
use Rattle.wy_kernel.specs.View.{method_of}
use Rattle.wy_syntax.specs.declared.declaration.ClassSyntax as memory_syntax
use Rattle.wy_syntax.specs.View.{class_of}
use Rattle.wy_members.specs.declared.rows.Rows as memory
use Rattle.wy_members.specs.Rows.{AreRows}
use Rattle.wy_members.specs.Declarations.{CompilationUnit, classes_of, table}
use Rattle.wy_members.specs.Broken.{known_part, compared}

-- the rows of a unit, its methods of known types, its classes as they are written, and the tables in which they are judged and compared
pub record AreJudged (unit : CompilationUnit) (in_memory : memory.Rows) (known_methods : List memory_method.Method) (texts : List (Bor memory_syntax.ClassSyntax)) (judged lower : Table) : Type 0 where
  pub rows : AreRows unit in_memory
  pub known : map method_of known_methods ≡ (table (known_part unit)).methods
  pub written : map (λ (k : Bor memory_syntax.ClassSyntax). class_of k.now) texts ≡ classes_of unit
  pub classes : judged.classes ≡ (table unit).classes
  pub methods : judged.methods ≡ (table unit).methods
  pub below : lower ≡ compared unit
