-- What is written of a run.
use Rattle.std.specs.Prelude.{ℕ, List, ◌++◌}
use Rattle.wy_kernel.specs.Program.{Program}
use Rattle.wy_kernel.specs.View.{present}
use Rattle.wy_steps.specs.Sets.{nothing}
use Rattle.wy_meaning.specs.Run.{output, tail, thrown}
use Rattle.wy_machine.specs.declared.ended.Ended.{Ended}
use Rattle.wy_text.specs.EndLines.{stop_line}
use Rattle.wy_telling.specs.Output.{whole_lines}
use Rattle.wy_reply.specs.Lines.{recorded_line}

-- its output in whole lines, and how it ended; the lines are those of the source's tokens
abbrev pub report : Program → List ℕ → List ℕ → ℕ → List ℕ
report p lines input steps =
    whole_lines (output nothing p input steps) ++ stop_line p lines (tail nothing p input steps).stop (thrown nothing p input steps).class (thrown nothing p input steps).site

-- the same where it was recorded, and the number of its events
abbrev pub recorded_report : Program → List ℕ → List ℕ → ℕ → List ℕ
recorded_report p lines input steps = report p lines input steps ++ recorded_line (tail nothing p input steps).events

-- ---- the same of a run as the machine leaves it

abbrev pub report_of_end : Program → List ℕ → Ended → List ℕ
report_of_end p lines e = whole_lines e.output.items ++ stop_line p lines e.tail.stop (present e.thrown.class) (present e.thrown.site)

abbrev pub recorded_of_end : Program → List ℕ → Ended → List ℕ
recorded_of_end p lines e = report_of_end p lines e ++ recorded_line e.tail.events
