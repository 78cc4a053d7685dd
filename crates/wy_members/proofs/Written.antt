-- The words that the programs of examples are written in. Bodies are empty.
use Rattle.std.specs.Prelude.{ℕ, ◌+◌, false, true, List, [], Option, Some}
use Rattle.std.specs.Prelude.{None as Absent}
use Rattle.wy_kernel.specs.declared.operator.Primitive.{Primitive}
use Rattle.wy_kernel.specs.declared.operator.Primitive.TheVariants as prim
use Rattle.wy_syntax.specs.declared.declaration.Modifier.{Modifier}
use Rattle.wy_syntax.specs.Syntax.{Named, WrittenType, Initial, Declarator, Braced, braced, done, Placed, Parameter, Header, Member, Fields, Method, Constructor, Declaration, Declared}
use Rattle.wy_syntax.specs.Syntax as syntax

abbrev pub at : List ℕ → ℕ → Named
at name token = record { name = name; token = token }

abbrev pub class_type : List ℕ → ℕ → WrittenType
class_type name token = record { base = syntax.Class name; token = token; brackets = 0 }

abbrev pub primitive_arrays : Primitive → ℕ → ℕ → WrittenType
primitive_arrays p brackets token = record { base = syntax.Basic p; token = token; brackets = brackets }

abbrev pub int_type : ℕ → WrittenType
int_type token = primitive_arrays prim.Int 0 token

abbrev pub long_type : ℕ → WrittenType
long_type token = primitive_arrays prim.Long 0 token

abbrev pub the : Modifier → ℕ → Placed
the m token = record { modifier = m; token = token }

abbrev pub parameter : WrittenType → List ℕ → ℕ → Parameter
parameter ty name token = record { is_final = false; ty = ty; name = at name token; brackets = 0 }

abbrev pub declarator : List ℕ → ℕ → Declarator
declarator name token = record { name = at name token; brackets = 0; initial = Absent }

abbrev pub header : List Placed → List ℕ → ℕ → List Parameter → Header
header ms name token params = record { modifiers = ms; name = at name token; params = params; throws = [] }

-- `{` and `}`
abbrev pub empty : ℕ → Option Braced
empty brace = Some (braced brace done (brace + 1))

abbrev pub constructor : List Placed → List ℕ → ℕ → List Parameter → ℕ → Member
constructor ms name token params brace = Constructor (header ms name token params) Absent brace done (brace + 1)

abbrev pub class : List Placed → List ℕ → ℕ → Option Named → List Named → List Member → ℕ → Declaration
class ms name token above interfaces members end = Declared (record { is_interface = false; modifiers = ms; name = at name token; above = above; interfaces = interfaces; members = members; end = end })

abbrev pub interface : List ℕ → ℕ → List Named → List Member → ℕ → Declaration
interface name token interfaces members end = Declared (record { is_interface = true; modifiers = []; name = at name token; above = Absent; interfaces = interfaces; members = members; end = end })
