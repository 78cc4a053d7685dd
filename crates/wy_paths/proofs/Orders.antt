-- The order of items is total, and tells any two links apart.
use Rattle.std.proofs.Common.{◌≡◌, refl, sym, subst}
use Rattle.std.specs.Cmp.{IsTotalOrder}
use Rattle.std.specs.Ordering.{ordering_then}
use Rattle.std.specs.declared.cmp.Ordering.{Ordering}
use Rattle.std.specs.declared.cmp.Ordering.TheVariants.{Less, Equal, Greater}
use Rattle.std.proofs.lemmas.Cmp.{nat_cmp_total, on_total, then_total}
use Rattle.wy_static.specs.declared.point.Link.{Link}
use Rattle.wy_static.specs.Order.{by_kind, by_site, by_source, by_target, kind_key}
use Rattle.wy_static.proofs.Orders.{point_total, same_links}
use Rattle.wy_paths.specs.Order.{by_form, by_value, item_cmp}

pub items_total : IsTotalOrder item_cmp
items_total =
    then_total (then_total (then_total (then_total
    (on_total (λ (l : Link). l.site) nat_cmp_total) (on_total (λ (l : Link). (kind_key l.kind).0) nat_cmp_total))
    (on_total (λ (l : Link). l.to) point_total)) (on_total (λ (l : Link). (kind_key l.kind).1) nat_cmp_total))
    (on_total (λ (l : Link). l.from) point_total)

both_equal : (a b : Ordering) → ordering_then a b ≡ Equal → (a ≡ Equal) × (b ≡ Equal)
both_equal Less b e = absurd (cc)
both_equal Equal b e = (refl, e)
both_equal Greater b e = absurd (cc)

then_both : (a b : Ordering) → a ≡ Equal → b ≡ Equal → ordering_then a b ≡ Equal
then_both a b e f = subst (λ x. ordering_then x b ≡ Equal) (sym e) f

pub items_apart : (a b : Link) → item_cmp a b ≡ Equal → a ≡ b
items_apart a b e =
    let p = both_equal (ordering_then (ordering_then (ordering_then (by_site a b) (by_form a b)) (by_target a b)) (by_value a b)) (by_source a b) e in
    let q = both_equal (ordering_then (ordering_then (by_site a b) (by_form a b)) (by_target a b)) (by_value a b) p.0 in
    let r = both_equal (ordering_then (by_site a b) (by_form a b)) (by_target a b) q.0 in
    let s = both_equal (by_site a b) (by_form a b) r.0 in
    let kind : by_kind a b ≡ Equal = then_both (by_form a b) (by_value a b) s.1 q.1 in
    same_links a b
    (then_both (ordering_then (ordering_then (by_target a b) (by_site a b)) (by_kind a b)) (by_source a b)
    (then_both (ordering_then (by_target a b) (by_site a b)) (by_kind a b) (then_both (by_target a b) (by_site a b) r.1 s.0) kind) p.1)
