-- In what the statements, arms and clauses of a program stand.
use Rattle.std.specs.Prelude.{ℕ, ◌+◌, nat_lt, if◌then◌else◌, List, [], ◌∷◌, ◌++◌, length, Option, Some}
use Rattle.std.specs.Prelude.{None as Absent}
use Rattle.std.specs.List.{flat_map, range_with_len}
use Rattle.wy_kernel.specs.Form.{Expression, Cond, Statement, Stmt, Act, Try, Catches, uncaught, catch}
use Rattle.wy_kernel.specs.Program.{Program, Body, body, init_body}
use Rattle.wy_kernel.specs.Statements.{statements}
use Rattle.wy_kernel.specs.View.{NONE}
use Rattle.wy_static.specs.declared.point.Point.{Point}
use Rattle.wy_static.specs.declared.point.Point.TheVariants as point
use Rattle.wy_static.specs.declared.way.Owner.{Owner}
use Rattle.wy_static.specs.declared.standing.Standing.{Standing}
use Rattle.wy_static.specs.Ways.{act_forms, owner_of}

-- initializers are numbered behind methods; a class that leaves no room has none
abbrev pub initializer_number : ℕ → ℕ
initializer_number c = if nat_lt c 2147483647 then 2147483648 + c else NONE

abbrev pub standing : ℕ → ℕ → Point → Standing
standing method around q = record { point = q; method = method; around = around }

-- both arms of a condition stand in its body and its statement
abbrev pub both_arms : ℕ → ℕ → ℕ → List Standing
both_arms m n site = standing m n (point.Arm site 0) ∷ standing m n (point.Arm site 1) ∷ []

abbrev pub form_standings : ℕ → ℕ → Expression → List Standing
form_standings m n (Cond form test if_true if_false site) = both_arms m n site
form_standings m n _ = []

abbrev pub arm_standings : ℕ → ℕ → Owner × Expression → List Standing
arm_standings m n x = form_standings m n x.1

-- no statement counts as around a clause
abbrev pub catch_standings : ℕ → Catches → List Standing
catch_standings m uncaught = []
catch_standings m (catch class local site block rest) = standing m NONE (point.Catch site) ∷ catch_standings m rest

abbrev pub try_standings : ℕ → Act → List Standing
try_standings m (Try main catches last) = catch_standings m catches
try_standings m _ = []

-- a statement, the arms of its expressions, and its clauses
abbrev pub standings_in : ℕ → Statement → List Standing
standings_in m (Stmt number site askable reach act) =
    standing m number (point.Statement number)
    ∷ (flat_map (arm_standings m number) (act_forms (owner_of (Stmt number site askable reach act)) act) ++ try_standings m act)

abbrev pub body_standings : ℕ → Option Body → List Standing
body_standings m Absent = []
body_standings m (Some b) = flat_map (standings_in m) (statements b.block)

abbrev pub method_standings : Program → ℕ → List Standing
method_standings p m = body_standings m (body p m)

abbrev pub initializer_standings : Program → ℕ → List Standing
initializer_standings p c = body_standings (initializer_number c) (init_body p c)

abbrev pub standings_of : Program → List Standing
standings_of p = flat_map (method_standings p) (range_with_len 0 (length p.bodies)) ++ flat_map (initializer_standings p) (range_with_len 0 (length p.init_bodies))
