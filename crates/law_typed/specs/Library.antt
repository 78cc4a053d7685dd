-- When the bodies of the library's methods fit the types of a program: in every program that begins with what the library declares.
use Rattle.std.specs.Prelude.{◌≡◌, ◌<◌, ◌≤◌, ℕ, length, Some, slice_get}
use Rattle.wy_kernel.specs.Program.{Program, Method, Body, library_statements}
use Rattle.wy_kernel.specs.Table.{BeginsWith}
use Rattle.wy_kernel.specs.Builtin as builtin
use Rattle.wy_library.specs.Library.{library_bodies}
use Rattle.wy_typing.specs.Programs.{IsBodyOf}

-- a program begins with the declarations and the bodies of the library, and has its text and the numbers of its statements
pub record HasLibrary (p : Program) : Type 0 where
  pub classes : BeginsWith p.classes builtin.classes
  pub methods : BeginsWith p.methods builtin.methods
  pub fields : BeginsWith p.fields builtin.fields
  pub bodies : BeginsWith p.bodies library_bodies
  pub text : 0 < length p.fixed_texts
  pub statements : library_statements ≤ p.statements

abbrev pub LibraryFits : Type 0
LibraryFits = (p : Program) (k : ℕ) (m : Method) (b : Body) → HasLibrary p → slice_get builtin.methods k ≡ Some m → slice_get library_bodies k ≡ Some (Some b) → IsBodyOf p m b
