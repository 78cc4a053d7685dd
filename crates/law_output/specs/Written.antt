-- What a run wrote and how it ended, and what its trace tells of that.
use Rattle.std.specs.Prelude.{◌≡◌, ◌≤◌, ℕ, List, ◌++◌, length}
use Rattle.wy_tree.specs.Tokens.{token_limit}
use Rattle.wy_kernel.specs.declared.program.Program.{Program}
use Rattle.wy_kernel.specs.Parts.{program_of}
use Rattle.wy_event.specs.declared.record.Head.{Head}
use Rattle.wy_event.specs.declared.record.Tail.{Tail}
use Rattle.wy_event.specs.Record.{Recorded}
use Rattle.wy_steps.specs.Sets.{nothing}
use Rattle.wy_meaning.specs.Run.{output, tail, thrown}
use Rattle.wy_text.specs.EndLines.{stop_line}
use Rattle.wy_telling.specs.Printed.{printed}
use Rattle.wy_telling.specs.Output.{output_text, whole_lines}
use Rattle.law_own_traces.specs.Own.{IsOwn}

-- what `run` writes: the output in whole lines, and how the run ended
abbrev pub run_text : Program → List ℕ → ℕ → List ℕ
run_text p input steps =
    whole_lines (output nothing (program_of p) input steps)
    ++ stop_line (program_of p) p.lines.items (tail nothing (program_of p) input steps).stop (thrown nothing (program_of p) input steps).class (thrown nothing (program_of p) input steps).site

-- what holds of the records and the end of each run of the program
abbrev pub OfOwnRecords : (Program → Head → List Recorded → Tail → Type 0) → Program → Type 0
OfOwnRecords Q p = (head : Head) (rs : List Recorded) (end : Tail) → IsOwn p head rs end → Q p head rs end

-- the bytes of their prints are the output of the run
abbrev pub PrintsAreOutput : Program → Type 0
PrintsAreOutput = OfOwnRecords (λ p head rs end. printed (program_of p) rs ≡ output nothing (program_of p) head.input head.steps)

-- where the text of the program is within its limit, what `output` writes of them is what `run` writes
abbrev pub TellsRun : Program → Type 0
TellsRun p = length p.lines.items ≤ token_limit → OfOwnRecords (λ p head rs end. output_text (program_of p) p.lines.items rs end ≡ run_text p head.input head.steps) p
