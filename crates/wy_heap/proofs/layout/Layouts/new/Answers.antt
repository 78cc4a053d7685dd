use Rattle.std.proofs.Common.{◌∙◌, ap, map}
use Rattle.wy_kernel.specs.View.{field_of}
use Rattle.wy_heap.specs.Plan.{planned}
use Rattle.wy_heap.proofs.Planned.{planned_with}
use Rattle.wy_heap.proofs.layout.Layouts.new.Goals as goal

pub returns : goal.returns
returns c = record {
  plan = planned_with c.args.program.now c.in_ok-fields.fields.items c.in_ok-above.above.items
      (c.in_ok-fields.ensures ∙ ap (map (λ f. planned (field_of f))) c.deref.ensures.value)
      (c.in_ok-above.ensures ∙ ap (map (λ c. c.above)) c.deref-2.ensures.value);
}
