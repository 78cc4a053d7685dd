-- The line that tells how a run ended. It ends with a line feed.
use Rattle.std.specs.Prelude.{ℕ, List, [], ◌∷◌, ◌++◌, ◌==◌, Option, Some, None, option_and_then, slice_get, slice_index_or, codes, if◌then◌else◌}
use Rattle.std.specs.Fmt.{decimal}
use Rattle.wy_kernel.specs.Program.{Program, full_name}

abbrev pub line_of : List ℕ → List ℕ
line_of text = text ++ 10 ∷ []

-- the full name of a class, and nothing where there is no class
unfoldable pub name_of : Program → Option ℕ → List ℕ
name_of p None = []
name_of p (Some class) = full_name p class

unfoldable pub place_on : Option ℕ → List ℕ
place_on None = codes "library"
place_on (Some line) = codes "line " ++ decimal line

-- where a site is, by the lines of the tokens: a site of the library is no token
unfoldable pub place_of : List ℕ → Option ℕ → List ℕ
place_of lines site = place_on (option_and_then (slice_get lines) site)

unfoldable pub uncaught_line : Program → List ℕ → Option ℕ → Option ℕ → List ℕ
uncaught_line p lines class site = line_of (codes "-- uncaught " ++ (name_of p class ++ (codes ", " ++ place_of lines site)))

-- the lines of the stops by their numbers; that of an uncaught object, at number 1, stands above
unfoldable pub plain_lines : List (List ℕ)
plain_lines =
    line_of (codes "-- finished")
    ∷ []
    ∷ line_of (codes "-- step limit")
    ∷ line_of (codes "-- event limit")
    ∷ line_of (codes "-- use limit")
    ∷ line_of (codes "-- element limit")
    ∷ line_of (codes "-- text limit")
    ∷ line_of (codes "-- output limit")
    ∷ line_of (codes "-- depth limit")
    ∷ line_of (codes "-- unassigned local")
    ∷ line_of (codes "-- fell off")
    ∷ line_of (codes "-- initializer failed")
    ∷ []

-- no stop has a number above 11: nothing is written of one
unfoldable pub plain_line : ℕ → List ℕ
plain_line stop = slice_index_or plain_lines stop []

-- the number of a stop, and the class and the site of what was thrown last
unfoldable pub stop_line : Program → List ℕ → ℕ → Option ℕ → Option ℕ → List ℕ
stop_line p lines stop class site = if stop == 1 then uncaught_line p lines class site else plain_line stop
