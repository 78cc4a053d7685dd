-- What the ranges of a trace read of bodies: how many locals they have, and which prints end a line.
use Rattle.std.specs.Prelude.{ℕ, true, List, [], ◌∷◌, length, Option, Some}
use Rattle.std.specs.Prelude.{None as Absent}
use Rattle.std.specs.List.{flat_map}
use Rattle.wy_kernel.specs.declared.form.Body.{Body}
use Rattle.wy_kernel.specs.Form.{Statement, Stmt, Act, Print}

-- how many locals a body has; what has no body has none
abbrev pub locals_of : Option Body → ℕ
locals_of Absent = 0
locals_of (Some b) = length b.locals.items

-- the site of a `println`
abbrev pub newline_in : Act → List ℕ
newline_in (Print operand ty true at) = at ∷ []
newline_in _ = []

abbrev pub newline_of : Statement → List ℕ
newline_of (Stmt number site askable reach form) = newline_in form

abbrev pub newlines_of : List Statement → List ℕ
newlines_of statements = flat_map newline_of statements
