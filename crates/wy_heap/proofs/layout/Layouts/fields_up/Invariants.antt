use Rattle.std.proofs.Common.{◌≡◌, ◌-◌, ◌++◌, length}
use Rattle.wy_heap.specs.Layouts.{plan_in}
use Rattle.wy_heap.specs.Plan.{fields_up}
use Rattle.wy_heap.proofs.layout.Layouts.fields_up.Given as goal

abbrev pub invariant-loop : goal.invariant-loop
invariant-loop l = l.row.items ++ fields_up (plan_in l.self) (length (plan_in l.self).above - l.counter) l.class ≡ fields_up (plan_in l.self) (length (plan_in l.self).above) l.initial.class
