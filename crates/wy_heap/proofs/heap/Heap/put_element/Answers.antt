use Rattle.std.proofs.Common.{◌<◌, length, arith, refl, sym, ap, ◌∙◌}
use Rattle.wy_event.specs.declared.record.Slot.TheVariants.{Elem}
use Rattle.wy_heap.specs.Heap.{held, value_at}
use Rattle.wy_heap.proofs.Slots.{place_in, place-inside}
use Rattle.wy_heap.proofs.Written.{writes-value}
use Rattle.wy_heap.proofs.heap.Heap.put_element.Goals as goal

pub index_mut-requires : goal.index_mut-requires
unfolding place_in
index_mut-requires c =
    let inside : c.in-Some.place < length c.args.self.now.values.items = place-inside c.args.self.now (Elem c.args.array c.args.index) c.in-Some.place (sym c.element_place.ensures ∙ c.in-Some.is) in
    omega (arith, c.args.self.now.values.ok)

pub returns-in-Some : goal.returns-in-Some
unfolding place_in
returns-in-Some c = writes-value c.args.self.now _ _ _ (Elem c.args.array c.args.index) c.args.value c.in-Some.place (sym c.element_place.ensures ∙ c.in-Some.is) refl

pub returns-in-None : goal.returns-in-None
unfolding held value_at
returns-in-None c = (ap (value_at c.args.self.now.values.items) (sym c.element_place.ensures ∙ c.in-None.is), refl)
