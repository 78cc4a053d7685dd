-- What can be asked about a trace, line by line.
use Rattle.std.specs.Prelude.{ℕ, false, List, [], ◌++◌, codes}
use Rattle.std.specs.Fmt.{decimal}
use Rattle.std.specs.List.{flat_map}
use Rattle.wy_kernel.specs.Program.{Program}
use Rattle.wy_event.specs.declared.record.Cover.{Cover}
use Rattle.wy_event.specs.declared.record.Slot.{Slot}
use Rattle.wy_event.specs.declared.record.Slot.TheVariants.{Static, Field}
use Rattle.wy_event.specs.Record.{Recorded}
use Rattle.wy_ask.specs.declared.asking.Listed.{Listed}
use Rattle.wy_ask.specs.declared.asking.Listed.TheVariants.{Printed, Stored, Never}
use Rattle.wy_ask.specs.Listing.{listing}
use Rattle.wy_text.specs.EventLines.{event_line}
use Rattle.wy_text.specs.Names.{field_name}
use Rattle.wy_text.specs.Values.{value_text}
use Rattle.wy_text.specs.EndLines.{line_of}

-- a field at a moment
unfoldable pub field_at : Program → ℕ → ℕ → List ℕ
field_at p field moment = field_name p field ++ (codes "@" ++ decimal moment)

-- the word that asks what a field holds at a moment
unfoldable pub slot_question : Program → Slot → ℕ → List ℕ
slot_question p (Static field) moment = codes "static:" ++ field_at p field moment
slot_question p (Field object field) moment =
    codes "field:" ++ (decimal object ++ (codes ":" ++ field_at p field moment))
slot_question p _ moment = []

unfoldable pub piece_line : ℕ → List ℕ → List ℕ
piece_line piece line = codes "p" ++ (decimal piece ++ (codes " " ++ line))

unfoldable pub stored_line : List ℕ → List ℕ → List ℕ
stored_line question value = line_of (question ++ (codes " = " ++ value))

unfoldable pub never_line : ℕ → ℕ → List ℕ
never_line line place = line_of (codes "whynot " ++ (decimal line ++ (codes "." ++ decimal place)))

-- by the lines of the program's tokens
unfoldable pub listed_line : Program → List ℕ → List Recorded → Listed → List ℕ
listed_line p lines rs (Printed piece event) = piece_line piece (event_line p lines rs event false)
listed_line p lines rs (Stored slot moment value) =
    stored_line (slot_question p slot moment) (value_text p rs value)
listed_line p lines rs (Never line place) = never_line line place

unfoldable pub questions_text : Program → List ℕ → List Recorded → List Cover → List ℕ
questions_text p lines rs covers = flat_map (listed_line p lines rs) (listing p lines rs covers)
