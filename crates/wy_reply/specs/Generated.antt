-- What is written of the run of a generated program.
use Rattle.std.specs.Prelude.{ℕ, List, ◌++◌, codes}
use Rattle.std.specs.Fmt.{decimal}
use Rattle.wy_kernel.specs.Limits.{steps_limit}
use Rattle.wy_kernel.specs.Program.{Program}
use Rattle.wy_reply.specs.RunSizes.{sizes_of}
use Rattle.wy_reply.specs.Lines.{line_of}

unfoldable pub sizes_line : ℕ → ℕ → ℕ → ℕ → List ℕ
sizes_line n events answer flow =
    line_of (codes "gen " ++ (decimal n ++ (codes ": " ++ (decimal events ++ (codes " events, "
    ++ (decimal answer ++ (codes " in the answer, " ++ (decimal flow ++ codes " in its data"))))))))

-- the events of the run, and how many its last print comes from, in all and by data
abbrev pub generated_report : ℕ → Program → List ℕ
generated_report n p =
    let s = sizes_of p steps_limit in sizes_line n s.events s.answer s.«data»
