-- The statements that print.
use Rattle.std.specs.Prelude.{◌≡◌, ◌==◌, ℕ, Bool, List, [], ◌∷◌, filter}
use Rattle.std.specs.List.{flat_map, list_any}
use Rattle.wy_kernel.specs.Program.{Program}
use Rattle.wy_kernel.specs.Form.{Statement, Stmt, Act, Print}
use Rattle.wy_kernel.specs.Statements.{statements_of}
use Rattle.wy_event.specs.declared.record.Cover.{Cover}
use Rattle.wy_ask.specs.declared.never.PlacedStatement.{PlacedStatement}
use Rattle.wy_ask.specs.Listing.{unbegun_in}

-- the number of a statement that prints
abbrev pub numbered_print : ℕ → Act → List ℕ
numbered_print number (Print operand ty ends_line at) = number ∷ []
numbered_print number _ = []

abbrev pub print_of : Statement → List ℕ
print_of (Stmt number site askable reach form) = numbered_print number form

abbrev pub prints_of : List Statement → List ℕ
prints_of statements = flat_map print_of statements

-- a number is among these
abbrev pub is_among : List ℕ → ℕ → Bool
is_among numbers n = list_any (λ m. m == n) numbers

abbrev pub prints : Program → ℕ → Bool
prints p n = is_among (prints_of (statements_of p)) n

-- these are the numbers of the statements that print
abbrev pub ArePrinters : Program → List ℕ → Type 0
ArePrinters p numbers = (n : ℕ) → is_among numbers n ≡ prints p n

-- the statements that print and never began, by their sites
abbrev pub unprinted : Program → List ℕ → List Cover → List PlacedStatement
unprinted p lines covers = filter (λ s. prints p s.statement.number) (unbegun_in lines (statements_of p) covers)
