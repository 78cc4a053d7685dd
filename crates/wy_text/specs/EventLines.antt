-- The line of an event: its number, where it is in the text, and what it did.
-- It ends with a line feed.
use Rattle.std.specs.Prelude.{ℕ, Bool, true, false, List, [], ◌∷◌, ◌++◌, Option, Some, slice_get, codes}
use Rattle.std.specs.Prelude.{None as Absent}
use Rattle.wy_kernel.specs.Program.{Program}
use Rattle.wy_value.specs.declared.value.Value.{Value}
use Rattle.wy_value.specs.declared.value.Value.TheVariants as value_of
use Rattle.wy_event.specs.declared.record.Kind.{Kind}
use Rattle.wy_event.specs.declared.record.Kind.TheVariants.{Init, New, Call, Bind, Set, Test, Text, Read, Print, Return, Jump, Throw, Catch}
use Rattle.wy_event.specs.Record.{Recorded}
use Rattle.wy_kernel.specs.View.{present}
use Rattle.wy_text.specs.EndLines.{line_of, name_of, place_of}
use Rattle.wy_text.specs.Names.{made_name, method_name, numbered}
use Rattle.wy_text.specs.Places.{slot_text}
use Rattle.wy_text.specs.Values.{value_text}

unfoldable pub verb : Kind → List ℕ
verb Init = codes "init"
verb New = codes "new"
verb Call = codes "call"
verb Bind = codes "bind"
verb Set = codes "set"
verb Test = codes "test"
verb Text = codes "text"
verb Read = codes "read"
verb Print = codes "print"
verb Return = codes "return"
verb Jump = codes "jump"
verb Throw = codes "throw"
verb Catch = codes "catch"

-- a text behind what leads to it, and nothing where there is none
unfoldable pub led : List ℕ → List ℕ → List ℕ
led before [] = []
led before (x ∷ xs) = before ++ x ∷ xs

unfoldable pub equation : List ℕ → List ℕ → List ℕ
equation place value = place ++ (codes " = " ++ value)

-- what a New made, with an array's length
unfoldable pub made_text : Program → Option ℕ → List ℕ → List ℕ
made_text p entity length = made_name p entity ++ led (codes " length ") length

-- what an event is about, with the texts of its place and its value;
-- the value of a New is the length of an array
unfoldable pub subject : Program → Kind → Option ℕ → List ℕ → List ℕ → List ℕ
subject p Init entity place value = name_of p entity
subject p New entity place value = made_text p entity value
subject p Call entity place value = method_name p entity
subject p Bind entity place value = equation place value
subject p Set entity place value = equation place value
subject p Catch entity place value = equation place value
subject p _ entity place value = value

unfoldable pub deed : Program → Kind → Option ℕ → List ℕ → List ℕ → List ℕ
deed p kind entity place value = verb kind ++ led (codes " ") (subject p kind entity place value)

-- a Text gives the text that it made
unfoldable pub given : Kind → ℕ → Value → Value
given Text n value = value_of.Text n
given _ n value = value

unfoldable pub star : Bool → List ℕ
star false = []
star true = codes " *"

unfoldable pub where_at : List ℕ → ℕ → List ℕ
where_at lines site = place_of lines (present site)

unfoldable pub line_with : List ℕ → ℕ → ℕ → List ℕ → Bool → List ℕ
line_with lines n site text marked =
    line_of (numbered n ++ (codes " " ++ (where_at lines site ++ (codes " " ++ (text ++ star marked)))))

-- what event n did
unfoldable pub deed_of : Program → List Recorded → ℕ → Recorded → List ℕ
deed_of p records n e =
    deed p e.kind e.entity (slot_text p records e.slot) (value_text p records (given e.kind n e.value))

unfoldable pub line_at : Program → List ℕ → List Recorded → ℕ → Bool → Option Recorded → List ℕ
line_at p lines records n marked Absent = []
line_at p lines records n marked (Some e) =
    line_with lines n e.site (deed_of p records n e) marked

-- the line of event n, with a star where it is marked, by the lines of the program's tokens
unfoldable pub event_line : Program → List ℕ → List Recorded → ℕ → Bool → List ℕ
event_line p lines records n marked = line_at p lines records n marked (slice_get records n)
