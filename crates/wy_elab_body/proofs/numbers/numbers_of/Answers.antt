-- Sorted places stand in order, and are the same ones.
use Rattle.std.proofs.Common.{rules}
use Rattle.std.proofs.lemmas.List.Sorted.{answers_always, IsNonDecreasingBy-from_sort}
use Rattle.wy_elab_body.specs.Places.{key_of}
use Rattle.wy_elab_body.proofs.Numbering.{number_in_order}
use Rattle.wy_elab_body.proofs.numbers.numbers_of.Goals as goal

pub invariant_of-result : goal.invariant_of-result
invariant_of-result c = record {
  in_order = IsNonDecreasingBy-from_sort key_of _ (c.sort_unstable_by_key.ensures.sorted key_of (answers_always _ _ _ (λ f a r g called. search rules)));
  few = search rules;
}

pub returns : goal.returns
returns c = λ site role. number_in_order site role c.args.places.items c.sort_unstable_by_key.new.self.items c.sort_unstable_by_key.ensures.permutation
