-- The clause of a `try` that takes an object (JLS 14.20.1).
use Rattle.std.specs.Prelude.{ℕ, List, [], ◌∷◌, Option, Some, if◌then◌else◌}
use Rattle.std.specs.Prelude.{None as Absent}
use Rattle.wy_kernel.specs.declared.form.Catch.{Catch}
use Rattle.wy_kernel.specs.Program.{Program, is_subclass}

-- the first whose class is the object's class or above it
abbrev pub taking : Program → List Catch → ℕ → Option Catch
taking p [] class = Absent
taking p (clause ∷ rest) class = if is_subclass p class clause.class then Some clause else taking p rest class
