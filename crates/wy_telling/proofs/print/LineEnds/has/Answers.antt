use Rattle.std.proofs.Common.{◌∙◌, ap, subst}
use Rattle.std.specs.List.Sorted.{IsBinarySearchResult}
use Rattle.std.specs.Ordering.{nat_cmp}
use Rattle.wy_telling.specs.Printed.{is_among}
use Rattle.wy_telling.proofs.EndSites.{has_site}
use Rattle.wy_telling.proofs.print.LineEnds.has.Goals as goal

pub returns : goal.returns
returns c =
    let sites = c.self.inside.sites.items in
    c.is_ok.ensures.value ∙ has_site sites c.args.site c.binary_search.result c.self.invariant (subst (λ xs. IsBinarySearchResult (λ y. nat_cmp y c.args.site) xs c.binary_search.result) c.deref.ensures.value c.binary_search.ensures.position)
    ∙ ap (λ xs. is_among xs c.args.site) c.self.view_is
