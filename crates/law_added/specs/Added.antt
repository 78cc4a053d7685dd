-- Records that begin others.
use Rattle.std.specs.Prelude.{◌≡◌, List, ◌++◌}
use Rattle.wy_kernel.specs.Program.{Program}
use Rattle.wy_steps.specs.Sets.{nothing}
use Rattle.wy_steps.specs.State.{Noted, Outcome}
use Rattle.wy_meaning.specs.Run.{end}
use Rattle.wy_operands.specs.Values.{Values}
use Rattle.wy_work.specs.declared.task.Task.{Task}
use Rattle.wy_work.specs.Tasks.{Context, after}

-- all of the records of the one are those of the other, which have more before them: the newest are first
abbrev pub Begin : List (Noted nothing) → List (Noted nothing) → Type 0
Begin records all = (more : List (Noted nothing)) × (all ≡ more ++ records)

-- the tasks only add to the records that are there
abbrev pub AddsToRecords : Program → Type 0
AddsToRecords p = (a : Context) (tasks : List Task) (o : Outcome nothing Values) → Begin (end o).noted (end (after p a tasks o)).noted
