-- The numbers of statements: each number below their count is that of one statement; those of the library come first, and those of the
-- text behind them in its order.
use Rattle.std.specs.Prelude.{◌≡◌, ℕ, zero, suc, ◌+◌, ◌<◌, ◌≤◌, List, [], ◌∷◌, ◌++◌, map, count_by, Option}
use Rattle.std.specs.List.{Contains, AllPairs}
use Rattle.wy_kernel.specs.Form.{Statement, Stmt}
use Rattle.wy_kernel.specs.Program.{Program, Body, library_statements}
use Rattle.wy_kernel.specs.Statements.{number_of, has_number, statements_of, statements_of_bodies}
use Rattle.wy_library.specs.Library.{library_bodies, library_init_bodies}

abbrev pub site_of : Statement → ℕ
site_of (Stmt number site askable reach act) = site

-- one statement has each number that is less than their count, and none another number
pub record AreDense (p : Program) : Type 0 where
  pub each : (n : ℕ) → n < p.statements → count_by (has_number n) (statements_of p) ≡ 1
  pub below : (s : Statement) → Contains (statements_of p) s → number_of s < p.statements

-- so many numbers, one after another
abbrev pub numbers_from : ℕ → ℕ → List ℕ
numbers_from n zero = []
numbers_from n (suc more) = n ∷ numbers_from (n + 1) more

-- where both have one site, the first has the less number
abbrev pub ComesFirst : Statement → Statement → Type 0
ComesFirst s t = site_of s ≡ site_of t → number_of s < number_of t

-- those of the library have the numbers from 0 up, and of two others the one whose site comes first has the less number; of one site those
-- in the bodies of initializers come first and then those in the other bodies, by the numbers of their methods, each before those within it
pub record AreInOrder (p : Program) : Type 0 where
  pub bodies : List (Option Body)
  pub initializers : List (Option Body)
  pub has_bodies : p.bodies ≡ library_bodies ++ bodies
  pub has_initializers : p.init_bodies ≡ library_init_bodies ++ initializers
  pub library : map number_of (statements_of_bodies library_bodies) ≡ numbers_from 0 library_statements
  pub behind : (s : Statement) → Contains (statements_of_bodies bodies ++ statements_of_bodies initializers) s → library_statements ≤ number_of s
  pub by_site : (s t : Statement) → Contains (statements_of_bodies bodies ++ statements_of_bodies initializers) s →
      Contains (statements_of_bodies bodies ++ statements_of_bodies initializers) t → site_of s < site_of t → number_of s < number_of t
  pub at_one_site : AllPairs ComesFirst (statements_of_bodies initializers ++ statements_of_bodies bodies)
