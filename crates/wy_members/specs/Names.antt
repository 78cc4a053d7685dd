-- Class names in memory as contracts see them.
use Rattle.std.specs.Prelude.{map}
use Rattle.wy_syntax.specs.View.{declaration_of}
use Rattle.wy_members.specs.declared.names.Names.{Names}
use Rattle.wy_members.specs.Declarations.{CompilationUnit}

-- the unit whose names they are
abbrev pub unit_of : Names → CompilationUnit
unit_of names = map declaration_of names.unit.now
