-- Which statements stand in which, and in which bodies.
use Rattle.std.specs.Prelude.{◌≡◌, ℕ, ◌++◌, Some}
use Rattle.std.specs.List.{Contains}
use Rattle.wy_kernel.specs.Form.{Statement}
use Rattle.wy_kernel.specs.Program.{Program, Body}
use Rattle.wy_kernel.specs.Statements.{number_of, statements}

-- s is t, or stands within it
abbrev pub IsIn : Statement → Statement → Type 0
IsIn s t = Contains (statements t) s

-- the body of a method, of a constructor, of `<fields>` or of an initializer
abbrev pub IsBodyOf : Program → Body → Type 0
IsBodyOf p b = Contains (p.bodies ++ p.init_bodies) (Some b)

-- a statement of the block that has this number and is s or contains it
pub record HasEnclosing (block s : Statement) (number : ℕ) : Type 0 where
  pub outer : Statement
  pub numbered : number_of outer ≡ number
  pub stands : IsIn outer block
  pub contains : IsIn s outer
