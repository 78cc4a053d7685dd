use Rattle.std.proofs.Common.{◌∙◌, ap, subst}
use Rattle.std.specs.List.Sorted.{IsBinarySearchResult}
use Rattle.std.specs.Ordering.{nat_cmp}
use Rattle.wy_expect.specs.Printers.{is_among}
use Rattle.wy_expect.proofs.Numbered.{has_number}
use Rattle.wy_expect.proofs.printers.Printers.has.Goals as goal

pub returns : goal.returns
returns c =
    let numbers = c.self.inside.numbers.items in
    c.is_ok.ensures.value ∙ has_number numbers c.args.number c.binary_search.result c.self.invariant (subst (λ xs. IsBinarySearchResult (λ y. nat_cmp y c.args.number) xs c.binary_search.result) c.deref.ensures.value c.binary_search.ensures.position)
    ∙ ap (λ xs. is_among xs c.args.number) c.self.view_is
