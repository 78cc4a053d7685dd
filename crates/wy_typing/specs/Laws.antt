-- What makes types sound to rely on.
use Rattle.std.specs.Prelude.{List, length}
use Rattle.std.specs.List.{All}
use Rattle.wy_kernel.specs.declared.types.Ty.{Ty}
use Rattle.wy_kernel.specs.Form.{Expression}
use Rattle.wy_kernel.specs.Program.{Program}
use Rattle.wy_kernel.specs.Table.{IsTypeOf}
use Rattle.wy_typing.specs.Expressions.{HasType}
use Rattle.wy_typing.specs.Programs.{IsDeclared, IsTypeIn}

-- the type of an expression names a class of the program, if it names one
abbrev pub TypesAreKnown : Type 0
TypesAreKnown = (p : Program) (locals : List Ty) (e : Expression) (ty : Ty) → IsDeclared p → All (IsTypeIn p) locals → HasType p locals e ty → IsTypeOf (length p.classes) ty
