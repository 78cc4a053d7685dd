-- The program of a text keeps the library.
use Rattle.std.specs.Prelude.{◌+◌, ◌^◌, ◌≤◌, ℕ, length, Ok}
use Rattle.wy_kernel.specs.Program.{Program}
use Rattle.wy_members.specs.Declarations.{CompilationUnit}
use Rattle.wy_elab_stmt.specs.Elaborates.{Elaborates}
use Rattle.law_typed_states.specs.Typed.{KeepsLibrary}

-- the classes of the library declare in a program of a text nothing but what the library declares; where its classes are few, the number of each
-- has a code as a type
abbrev pub ProgramsKeepLibrary : Type 0
ProgramsKeepLibrary = (unit : CompilationUnit) (tokens : ℕ) (p : Program) → Elaborates unit tokens (Ok p) → 16 + length p.classes ≤ 2 ^ 24 → KeepsLibrary p
