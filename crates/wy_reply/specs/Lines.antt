-- The lines that a command writes of what it could not do. Each ends with a line feed.
use Rattle.std.specs.Prelude.{ℕ, List, [], ◌∷◌, ◌++◌, codes}
use Rattle.std.specs.Fmt.{decimal}
use Rattle.wy_payload.specs.declared.fault.DamageRule.{DamageRule}
use Rattle.wy_payload.specs.declared.fault.DamageRule.TheVariants as rule

abbrev pub line_of : List ℕ → List ℕ
line_of text = text ++ 10 ∷ []

abbrev pub usage_line : List ℕ
usage_line = line_of (codes "usage: whyline COMMAND WORDS")

abbrev pub absent_line : List ℕ → List ℕ
absent_line name = line_of (codes "absent: " ++ name)

-- the rule that a source breaks, and the byte at which it does
abbrev pub at_byte : List ℕ → ℕ → List ℕ
at_byte rule byte = line_of (codes "program: " ++ (rule ++ (codes " at byte " ++ decimal byte)))

-- the rule that a source breaks, and the token at which it does, with its line
abbrev pub at_token : List ℕ → ℕ → ℕ → List ℕ
at_token name line token = line_of (codes "program: " ++ (name ++ (codes " at line " ++ (decimal line ++ (codes " token " ++ decimal token)))))

-- ---- traces

-- a trace whose source is no program, with the line that says why
abbrev pub of_trace : List ℕ → List ℕ
of_trace line = codes "trace: " ++ line

abbrev pub cut_line : ℕ → List ℕ
cut_line byte = line_of (codes "trace: Cut at byte " ++ decimal byte)

unfoldable pub damage_name : DamageRule → List ℕ
damage_name rule.Magic = codes "Magic"
damage_name rule.FrameKind = codes "FrameKind"
damage_name rule.Length = codes "Length"
damage_name rule.Range = codes "Range"
damage_name rule.Kind = codes "Kind"
damage_name rule.Count = codes "Count"
damage_name rule.After = codes "After"

abbrev pub damaged_as : ℕ → List ℕ → List ℕ
damaged_as byte rule = line_of (codes "trace: Damaged at byte " ++ (decimal byte ++ (codes ", " ++ rule)))

abbrev pub damaged_line : ℕ → DamageRule → List ℕ
damaged_line byte r = damaged_as byte (damage_name r)

abbrev pub bad_seal_line : List ℕ
bad_seal_line = line_of (codes "trace: BadSeal")

abbrev pub changed_line : ℕ → List ℕ
changed_line block = line_of (codes "trace: Changed block " ++ decimal block)

-- ---- questions

abbrev pub not_read_line : List ℕ
not_read_line = line_of (codes "question: not read")

abbrev pub no_such_line : ℕ → List ℕ
no_such_line number = line_of (codes "question: no such " ++ decimal number)

-- a statement by its line and its place in it, and how often it began
unfoldable pub ran_line : ℕ → ℕ → ℕ → ℕ → List ℕ
ran_line line place count first =
    line_of (codes "question: line " ++ (decimal line ++ (codes "." ++ (decimal place
    ++ (codes " ran " ++ (decimal count ++ (codes " times, first before #" ++ decimal first)))))))

-- the same, and the event of a call that first passed its region
unfoldable pub passed_line : ℕ → ℕ → ℕ → List ℕ
passed_line line place event =
    line_of (codes "question: line " ++ (decimal line ++ (codes "." ++ (decimal place
    ++ (codes " passed at #" ++ decimal event)))))

-- ---- faults and limits

abbrev pub shelf_fault_line : List ℕ
shelf_fault_line = line_of (codes "fault: shelf")

abbrev pub recorder_fault_line : List ℕ
recorder_fault_line = line_of (codes "fault: recorder")

abbrev pub too_long_line : List ℕ → List ℕ
too_long_line name = line_of (codes "too long: " ++ name)

-- ---- audits

abbrev pub equal_line : List ℕ
equal_line = line_of (codes "audit: equal")

abbrev pub differs_line : ℕ → List ℕ
differs_line event = line_of (codes "audit: differs at event " ++ decimal event)

abbrev pub tail_differs_line : List ℕ
tail_differs_line = line_of (codes "audit: differs in the tail")

-- ---- certificates

abbrev pub certificate_not_read_line : List ℕ
certificate_not_read_line = line_of (codes "certificate: not read")

abbrev pub other_trace_line : List ℕ
other_trace_line = line_of (codes "certificate: other trace")

abbrev pub certificate_event_line : ℕ → List ℕ
certificate_event_line event = line_of (codes "certificate: event " ++ decimal event)

-- of how many events a good one is, and how many of them are in the data
abbrev pub good_line : ℕ → ℕ → List ℕ
good_line events by_data =
    line_of (codes "certificate: " ++ (decimal events ++ (codes " events, " ++ (decimal by_data ++ codes " in the data"))))

-- ---- recordings

abbrev pub recorded_line : ℕ → List ℕ
recorded_line events = line_of (codes "-- recorded " ++ (decimal events ++ codes " events"))

-- ---- traces that are written anew

-- of how many events one is
abbrev pub migrated_line : ℕ → List ℕ
migrated_line events = line_of (codes "migrate: " ++ (decimal events ++ codes " events"))
