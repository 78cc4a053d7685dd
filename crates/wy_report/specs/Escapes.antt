-- A text as a page shows it.
use Rattle.std.specs.Prelude.{◌≢◌, ℕ, ◌==◌, ◌&&◌, not, nat_lt, if◌then◌else◌, List, [], ◌∷◌, ◌++◌, codes, Option, Some}
use Rattle.std.specs.Prelude.{None as Absent}
use Rattle.std.specs.List.{flat_map}

-- the entity of a byte, where it has one: of &, <, > and "
abbrev pub entity_of : ℕ → Option (List ℕ)
entity_of b =
    if b == 38 then Some (codes "&amp;")
    else (if b == 60 then Some (codes "&lt;") else (if b == 62 then Some (codes "&gt;") else (if b == 34 then Some (codes "&quot;") else Absent)))

-- a control as a space, but for a tab
abbrev pub shown_byte : ℕ → ℕ
shown_byte b = if nat_lt b 32 && not (b == 9) then 32 else b

abbrev pub entity_or : ℕ → Option (List ℕ) → List ℕ
entity_or b (Some entity) = entity
entity_or b Absent = shown_byte b ∷ []

abbrev pub escaped_byte : ℕ → List ℕ
escaped_byte b = entity_or b (entity_of b)

unfoldable pub escaped : List ℕ → List ℕ
escaped text = flat_map escaped_byte text

-- ---- what a page reads as text alone

pub data IsEntity : List ℕ → Type 0 where
  ampersand : IsEntity (codes "&amp;")
  less : IsEntity (codes "&lt;")
  greater : IsEntity (codes "&gt;")
  quote : IsEntity (codes "&quot;")

-- bytes that mean themselves, none of which is &, <, > or ", and entities
pub data IsText : List ℕ → Type 0 where
  nothing : IsText []
  byte : (b : ℕ) (rest : List ℕ) → b ≢ 38 → b ≢ 60 → b ≢ 62 → b ≢ 34 → IsText rest → IsText (b ∷ rest)
  entity : (e rest : List ℕ) → IsEntity e → IsText rest → IsText (e ++ rest)
