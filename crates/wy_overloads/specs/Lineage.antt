-- Classes with their supertypes, and methods, in memory as contracts see them.
use Rattle.std.specs.Prelude.{◌≡◌, List, []}
use Rattle.wy_kernel.specs.Program.{Class}
use Rattle.wy_kernel.specs.Subtyping.{direct_supertypes}
use Rattle.wy_kernel.specs.Table.{Table}

-- Object has nothing above
abbrev pub HasTop : List Class → Type 0
HasTop classes = direct_supertypes classes 0 ≡ []

-- what a table says of its classes and methods
abbrev pub classes_and_methods : Table → Table
classes_and_methods t = record { classes = t.classes; methods = t.methods; fields = []; constants = [] }
