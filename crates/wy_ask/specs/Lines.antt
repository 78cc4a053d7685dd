-- The askable statements of a program whose sites are tokens of its text, and the numbers of those of a line.
use Rattle.std.specs.Prelude.{ℕ, Bool, ◌==◌, if◌then◌else◌, List, [], ◌∷◌, Option, Some, filter, map, slice_get}
use Rattle.std.specs.Prelude.{None as Absent}
use Rattle.std.specs.List.{flat_map}
use Rattle.wy_kernel.specs.Form.{Statement, Stmt}
use Rattle.wy_ask.specs.declared.askable.Askable.{Askable}

-- with the line of the token, where there is such a token
abbrev pub at_token : ℕ → ℕ → Option ℕ → List Askable
at_token number site Absent = []
at_token number site (Some line) = record { number = number; site = site; line = line } ∷ []

abbrev pub own : List ℕ → ℕ → ℕ → Bool → List Askable
own lines number site askable = if askable then at_token number site (slice_get lines site) else []

-- by the lines of the tokens
abbrev pub askable_of : List ℕ → Statement → List Askable
askable_of lines (Stmt number site askable reach form) = own lines number site askable

abbrev pub askable_in : List ℕ → List Statement → List Askable
askable_in lines all = flat_map (askable_of lines) all

abbrev pub numbers_on : List ℕ → ℕ → List Statement → List ℕ
numbers_on lines line all = map (λ s. s.number) (filter (λ s. s.line == line) (askable_in lines all))
