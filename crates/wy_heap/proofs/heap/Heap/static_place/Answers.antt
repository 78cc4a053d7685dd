use Rattle.std.proofs.Common.{sym, ◌∙◌}
use Rattle.wy_heap.specs.Heap.{is_made, plan}
use Rattle.wy_heap.proofs.Places.{place-none, place-none_begun, place-there}
use Rattle.wy_heap.proofs.heap.Heap.static_place.Goals as goal
use Rattle.wy_heap.proofs.heap.Heap.static_place.Goals.{else-plan-via-then-plan+else-is_begun, else-plan-via-else-plan}

pub returns-then-is_begun : goal.returns-then-is_begun
unfolding plan is_made
returns-then-is_begun c =
    sym (place-there (plan c.args.self.now) c.args.self.now.begun.items c.args.field c.field-plan.result c.field-plan.ensures c.if-plan.true (sym c.is_begun.ensures ∙ c.if-is_begun.true))

pub returns-else-plan : goal.returns-else-plan
unfolding plan is_made
returns-else-plan c = elim c.else-plan.branch [
  | else-plan-via-then-plan+else-is_begun w ↦ sym (place-none_begun (plan c.args.self.now) c.args.self.now.begun.items c.args.field c.field-plan.result c.field-plan.ensures (sym w.is_begun.ensures ∙ w.if-is_begun.false))
  | else-plan-via-else-plan w ↦ sym (place-none (plan c.args.self.now) c.args.self.now.begun.items c.args.field c.field-plan.result c.field-plan.ensures w.if-plan.false)
]
