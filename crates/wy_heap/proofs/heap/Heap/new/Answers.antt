use Rattle.std.proofs.Common.{refl}
use Rattle.wy_heap.specs.Heap.{plan}
use Rattle.wy_heap.proofs.Empty.{all_first, is_new, none_apart}
use Rattle.wy_heap.proofs.heap.Heap.new.Goals as goal

pub invariant_of-result : goal.invariant_of-result
invariant_of-result c = record {
  is_apart = none_apart _ _ _ _ _ c.new-2.ensures.items;
  is_first = all_first _ _ _ c.in_ok-statics.ensures;
}

pub returns : goal.returns
unfolding plan
returns c = is_new _ _ c.classes.result c.in_ok-layouts.ensures.plan (c.in_ok-begun.ensures.items_if_clones_equal (λ y e. e)) c.new-2.ensures.items c.new-4.ensures.items refl
