-- The names of members and of objects.
use Rattle.std.specs.Prelude.{ℕ, List, [], ◌++◌, Option, Some, codes}
use Rattle.std.specs.Prelude.{None as Absent}
use Rattle.std.specs.Fmt.{decimal}
use Rattle.wy_kernel.specs.Program.{Program, field, full_name, method, type_of_code}
use Rattle.wy_meaning.specs.Library.{type_name}

-- a member's name behind that of its class
unfoldable pub member_name : Program → ℕ → List ℕ → List ℕ
member_name p class name = full_name p class ++ (codes "." ++ name)

unfoldable pub method_name : Program → Option ℕ → List ℕ
method_name p Absent = []
method_name p (Some m) = member_name p (method p m).class (method p m).name

unfoldable pub field_name : Program → ℕ → List ℕ
field_name p f = member_name p (field p f).class (field p f).name

-- the name of the type that a New made, by the type's code
unfoldable pub made_name : Program → Option ℕ → List ℕ
made_name p Absent = []
made_name p (Some code) = type_name p (type_of_code code)

-- an event, and the object that it made
unfoldable pub numbered : ℕ → List ℕ
numbered n = codes "#" ++ decimal n
