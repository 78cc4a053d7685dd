-- What is written of a run, by its trace.
use Rattle.std.specs.Prelude.{ℕ, Bool, true, List, [], ◌∷◌, ◌++◌, ◌==◌, if◌then◌else◌}
use Rattle.wy_kernel.specs.Program.{Program}
use Rattle.wy_event.specs.declared.record.Tail.{Tail}
use Rattle.wy_event.specs.Record.{Recorded}
use Rattle.wy_kernel.specs.View.{present}
use Rattle.wy_text.specs.EndLines.{line_of, stop_line}
use Rattle.wy_telling.specs.Printed.{printed}
use Rattle.wy_telling.specs.Thrown.{thrown_class, thrown_site}

-- nothing, or a text whose last byte is a line feed
abbrev pub ends_its_line : List ℕ → Bool
ends_its_line [] = true
ends_its_line (b ∷ []) = b == 10
ends_its_line (b ∷ c ∷ rest) = ends_its_line (c ∷ rest)

-- what was printed, with a line feed where its last line has none
abbrev pub whole_lines : List ℕ → List ℕ
whole_lines output = if ends_its_line output then output else line_of output

-- the line of the stop that ended a run
abbrev pub end_line : Program → List ℕ → List Recorded → Tail → List ℕ
end_line p lines rs tail =
    stop_line p lines tail.stop (thrown_class rs (present tail.last)) (thrown_site rs (present tail.last))

-- what the prints wrote in whole lines, and how the run ended
unfoldable pub output_text : Program → List ℕ → List Recorded → Tail → List ℕ
output_text p lines rs tail = whole_lines (printed p rs) ++ end_line p lines rs tail
