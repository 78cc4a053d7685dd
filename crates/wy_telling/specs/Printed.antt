-- What the prints of a trace wrote.
use Rattle.std.specs.Prelude.{◌≡◌, ℕ, Bool, ◌==◌, if◌then◌else◌, List, [], ◌++◌, slice_get}
use Rattle.std.specs.List.{flat_map, list_any}
use Rattle.wy_kernel.specs.Program.{Program, fixed_text}
use Rattle.wy_kernel.specs.Statements.{statements_of}
use Rattle.wy_value.specs.declared.value.Value.{Value}
use Rattle.wy_value.specs.declared.value.Value.TheVariants.{Text, Fixed}
use Rattle.wy_value.specs.Encoding.{utf8_of}
use Rattle.wy_value.specs.Numeral.{text_of}
use Rattle.wy_event.specs.Record.{Recorded}
use Rattle.wy_index.specs.Found.{is_print}
use Rattle.wy_meaning.specs.Text.{line_end}
use Rattle.wy_meaning.specs.World.{units_in}
use Rattle.wy_payload.specs.Bodies.{newlines_of}

-- the units of a printed value: those of a text stand in the record that made it
unfoldable pub printed_units : Program → List Recorded → Value → List ℕ
printed_units p rs (Text n) = units_in (slice_get rs n)
printed_units p rs (Fixed n) = fixed_text p n
printed_units p rs v = text_of v

-- a site is among these
abbrev pub is_among : List ℕ → ℕ → Bool
is_among sites site = list_any (λ s. s == site) sites

-- a site is that of a `println` of the program
abbrev pub ends_line : Program → ℕ → Bool
ends_line p site = is_among (newlines_of (statements_of p)) site

-- the bytes that an event wrote
unfoldable pub printed_by : Program → List Recorded → Recorded → List ℕ
printed_by p rs e =
    if is_print e.kind then utf8_of (printed_units p rs e.value) ++ line_end (ends_line p e.site)
    else []

-- the bytes of the prints in order
abbrev pub printed : Program → List Recorded → List ℕ
printed p rs = flat_map (printed_by p rs) rs

-- these are the sites of the program's prints that end a line
abbrev pub AreLineEnds : Program → List ℕ → Type 0
AreLineEnds p sites = (site : ℕ) → is_among sites site ≡ ends_line p site
