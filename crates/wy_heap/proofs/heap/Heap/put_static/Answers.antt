use Rattle.std.proofs.Common.{arith, refl, sym, ap, ◌∙◌}
use Rattle.wy_heap.specs.Heap.{held, plan, value_at}
use Rattle.wy_heap.proofs.Classes.{stay-first, static_place-is_static, writes-static}
use Rattle.wy_heap.proofs.heap.Heap.put_static.Goals as goal

pub index_mut-requires : goal.index_mut-requires
unfolding plan
index_mut-requires c =
    let there = static_place-is_static _ _ c.args.field c.in-Some.place (sym c.static_place.ensures ∙ c.in-Some.is) in
    omega (arith, there.is, there.inside, c.args.self.now.is_first.a_value_a_field, c.args.self.now.statics.ok)

pub invariant_of-self : goal.invariant_of-self
unfolding plan
invariant_of-self c = record {
  is_apart = c.args.self.now.is_apart;
  is_first = stay-first _ _ _ c.args.field c.args.value c.in-Some.place c.args.self.now.is_first (sym c.static_place.ensures ∙ c.in-Some.is);
}

pub returns-in-Some : goal.returns-in-Some
unfolding plan
returns-in-Some c = writes-static c.args.self.now _ _ _ c.args.field c.args.value c.in-Some.place (sym c.static_place.ensures ∙ c.in-Some.is) refl

pub returns-in-None : goal.returns-in-None
unfolding held value_at
returns-in-None c = (ap (value_at c.args.self.now.statics.items) (sym c.static_place.ensures ∙ c.in-None.is), refl)
