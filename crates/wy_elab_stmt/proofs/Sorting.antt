-- Texts that are sorted by their tokens stand in the order of their first tokens.
use Rattle.std.proofs.Common.{◌≡◌, List, map, nat_cmp, ◌∙◌, ap}
use Rattle.std.specs.List.Sorted.{IsNonDecreasingBy, IsStableByKey}
use Rattle.wy_kernel.proofs.Sorting.{in_order_from_sort, map_in_order}
use Rattle.wy_constant.specs.declared.variable.FixedText.{FixedText}
use Rattle.wy_constant.specs.Scope as plain
use Rattle.wy_constant.specs.Scopes.{text_of}
use Rattle.wy_elab_stmt.specs.Program.{in_order}

pub sorted_texts : (xs ys : List FixedText) → IsNonDecreasingBy (λ (x : FixedText). x.token) ys → IsStableByKey (λ (x : FixedText). x.token) nat_cmp xs ys → map text_of ys ≡ in_order (map text_of xs)
unfolding in_order
sorted_texts xs ys sorted stable = ap (map text_of) (in_order_from_sort (λ (x : FixedText). x.token) xs ys sorted stable) ∙ map_in_order text_of (λ (t : plain.FixedText). t.token) xs
