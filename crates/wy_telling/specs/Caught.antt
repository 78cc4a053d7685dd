-- What the catch clauses of a program catch (JLS 14.20).
use Rattle.std.specs.Prelude.{◌≡◌, ℕ, nat_eq, if◌then◌else◌, List, [], ◌∷◌, Option, Some}
use Rattle.std.specs.Prelude.{None as Absent}
use Rattle.std.specs.List.{flat_map}
use Rattle.wy_kernel.specs.Form.{Act, Catches, Statement, Stmt, Try, catch, uncaught}
use Rattle.wy_telling.specs.declared.caught.Clause.{Clause}

-- the clauses of a `try`, each with its site and the class that it catches
abbrev pub clauses_of : Catches → List Clause
clauses_of uncaught = []
clauses_of (catch class local site block rest) =
    record { site = site; class = class } ∷ clauses_of rest

abbrev pub clauses_in_act : Act → List Clause
clauses_in_act (Try main catches last) = clauses_of catches
clauses_in_act _ = []

abbrev pub clauses_in : Statement → List Clause
clauses_in (Stmt number site askable reach act) = clauses_in_act act

-- the class of the first clause at a site
abbrev pub class_at : List Clause → ℕ → Option ℕ
class_at [] site = Absent
class_at (c ∷ rest) site = if nat_eq c.site site then Some c.class else class_at rest site

-- the class that the first clause at a site catches, among statements
abbrev pub class_caught : List Statement → ℕ → Option ℕ
class_caught all site = class_at (flat_map clauses_in all) site

-- these are the clauses of statements
abbrev pub AreClauses : List Statement → List Clause → Type 0
AreClauses all clauses = clauses ≡ flat_map clauses_in all
