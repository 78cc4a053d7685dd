-- How contracts see a machine in memory.
use Rattle.std.specs.Prelude.{ℕ, List, map, reverse}
use Rattle.wy_event.specs.Record.{Recorded}
use Rattle.wy_state.specs.Agrees.{shape}
use Rattle.wy_operands.specs.Layout.{values_of}
use Rattle.wy_work.specs.declared.machine.Machine.{Machine}
use Rattle.wy_work.specs.Tasks.{MachineState}

abbrev pub standing : {R : Type 0} → (R → ℕ) → (R → List Recorded) → Machine R → MachineState
standing keeps kept m = record {
  state = shape keeps kept m.state;
  depth = m.depth;
  work = reverse m.work.items;
  values = values_of m.stack;
  saved = reverse (map values_of m.saved.items);
}
