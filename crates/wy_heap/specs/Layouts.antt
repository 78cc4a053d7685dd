-- What the layouts of a program know of it.
use Rattle.wy_heap.specs.declared.layout.Layouts.{Layouts}
use Rattle.wy_heap.specs.Plan.{Plan}
use Rattle.wy_heap.specs.Layout.{plan_with}

abbrev pub plan_in : Layouts → Plan
plan_in layouts = plan_with layouts.fields.items layouts.above.items
