-- Links that are put in order, each once.
use Rattle.std.proofs.Common.{◌≡◌, true, List, refl, sym, subst}
use Rattle.std.specs.List.{Contains, dedup}
use Rattle.std.specs.List.Sorted.{IsPermutation, IsSortedBy, IsStrictlySortedBy}
use Rattle.std.specs.Ordering.{eq_by_cmp, is_eq, is_lt}
use Rattle.std.specs.declared.cmp.Ordering.{Ordering}
use Rattle.std.specs.declared.cmp.Ordering.TheVariants.{Less, Equal, Greater}
use Rattle.std.proofs.lemmas.Cmp.{eq_by_cmp_equiv}
use Rattle.std.proofs.lemmas.List.Kept.{Contains-dedup, Contains-from_dedup, IsStrictlySortedBy-dedup}
use Rattle.std.proofs.lemmas.List.Sorted.{Contains-permutation, IsPermutation-sym}
use Rattle.wy_static.specs.declared.point.Link.{Link}
use Rattle.wy_static.specs.Along.{SameLinks}
use Rattle.wy_static.specs.Order.{link_cmp}
use Rattle.wy_static.proofs.Orders.{link_total, same_links}

equal_by : (o : Ordering) → is_eq o ≡ true → o ≡ Equal
equal_by Less e = cc
equal_by Equal e = refl
equal_by Greater e = cc

pub same_kept : (old sorted new : List Link) → IsPermutation old sorted → new ≡ dedup (eq_by_cmp link_cmp) sorted → SameLinks old new
same_kept old sorted new moved is l = (
  λ h. Contains-permutation sorted old l (IsPermutation-sym old sorted moved) (Contains-from_dedup (eq_by_cmp link_cmp) sorted l (subst (λ xs. Contains xs l) is h)),
  λ h. subst (λ xs. Contains xs l) (sym is) (Contains-dedup (eq_by_cmp_equiv link_total) (λ a b e. same_links a b (equal_by (link_cmp a b) e)) sorted l (Contains-permutation old sorted l moved h)),
)

pub in_order : (sorted new : List Link) → IsSortedBy (λ a b. is_lt (link_cmp a b)) sorted → new ≡ dedup (eq_by_cmp link_cmp) sorted → IsStrictlySortedBy link_cmp new
in_order sorted new up is = subst (λ xs. IsStrictlySortedBy link_cmp xs) (sym is) (IsStrictlySortedBy-dedup link_total (λ a b. refl) sorted up)
