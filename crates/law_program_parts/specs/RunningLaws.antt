-- The method that a class runs stands for the one that is called (JLS 8.4.8, 15.12.4.4).
use Rattle.std.specs.Prelude.{ℕ, ◌≤◌, length, Ok}
use Rattle.wy_kernel.specs.Program.{Program}
use Rattle.wy_members.specs.Declarations.{CompilationUnit}
use Rattle.wy_elab_stmt.specs.Elaborates.{Elaborates}
use Rattle.wy_typing.specs.Programs.{RunsMethods}
use Rattle.law_typed.specs.ExpressionsTyped.{MethodsFit}
use Rattle.law_program_parts.specs.TableLaws.{class_limit}

-- in a program each class that objects are made of runs, for each method that may be called on it, one with a body that takes what is
-- called takes and gives what may stand for what it gives
abbrev pub ClassesRunMethods : Type 0
ClassesRunMethods = (unit : CompilationUnit) (count : ℕ) (p : Program) → length p.classes ≤ class_limit → MethodsFit p → Elaborates unit count (Ok p) → RunsMethods p
