-- How contracts see a machine whose events are handed on.
use Rattle.std.specs.Prelude.{map}
use Rattle.wy_event.specs.Record.{recorded}
use Rattle.wy_work.specs.Machines.{standing}
use Rattle.wy_work.specs.Tasks.{MachineState}
use Rattle.wy_work.specs.declared.machine.Machine.{Machine}
use Rattle.wy_machine.specs.declared.made.Made.{Made}

abbrev pub seen : Machine Made → MachineState
seen m = standing (λ (x : Made). x.handed) (λ (x : Made). map recorded x.events.items) m
