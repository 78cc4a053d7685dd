-- The order in which links are told: by site, kind and target; then, so that no two tie, by the
-- value of an arm and by source.
use Rattle.std.specs.declared.cmp.Ordering.{Ordering}
use Rattle.std.specs.Ordering.{nat_cmp, on, ordering_then}
use Rattle.wy_static.specs.declared.point.Link.{Link}
use Rattle.wy_static.specs.Order.{by_site, by_source, by_target, kind_key}

abbrev pub by_form : Link → Link → Ordering
by_form = on (λ l. (kind_key l.kind).0) nat_cmp

abbrev pub by_value : Link → Link → Ordering
by_value = on (λ l. (kind_key l.kind).1) nat_cmp

abbrev pub item_cmp : Link → Link → Ordering
item_cmp a b =
    ordering_then
    (ordering_then
    (ordering_then (ordering_then (by_site a b) (by_form a b)) (by_target a b))
    (by_value a b))
    (by_source a b)
