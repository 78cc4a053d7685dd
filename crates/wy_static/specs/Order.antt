-- The order of points and of links.
use Rattle.std.specs.Prelude.{ℕ, Bool}
use Rattle.std.specs.declared.cmp.Ordering.{Ordering}
use Rattle.std.specs.Ordering.{is_eq, nat_cmp, on, ordering_then}
use Rattle.wy_static.specs.declared.point.Point.{Point}
use Rattle.wy_static.specs.declared.point.Point.TheVariants as point
use Rattle.wy_static.specs.declared.point.LinkKind.{LinkKind}
use Rattle.wy_static.specs.declared.point.LinkKind.TheVariants as kind
use Rattle.wy_static.specs.declared.point.Link.{Link}

abbrev pub pair_cmp : ℕ × ℕ → ℕ × ℕ → Ordering
pair_cmp a b = ordering_then (nat_cmp a.0 b.0) (nat_cmp a.1 b.1)

abbrev pub triple_cmp : ℕ × ℕ × ℕ → ℕ × ℕ × ℕ → Ordering
triple_cmp a b = ordering_then (ordering_then (nat_cmp a.0 b.0) (nat_cmp a.1 b.1)) (nat_cmp a.2 b.2)

-- ---- points: Start, entries, initializations, statements, arms and catches, each by their numbers

abbrev pub point_key : Point → ℕ × ℕ × ℕ
point_key point.Start = (0, 0, 0)
point_key (point.Entry m) = (1, m, 0)
point_key (point.Init c) = (2, c, 0)
point_key (point.Statement n) = (3, n, 0)
point_key (point.Arm site value) = (4, site, value)
point_key (point.Catch site) = (5, site, 0)

abbrev pub point_cmp : Point → Point → Ordering
point_cmp = on point_key triple_cmp

-- of one kind, with the same numbers
abbrev pub same_point : Point → Point → Bool
same_point a b = is_eq (point_cmp a b)

-- ---- kinds

abbrev pub kind_key : LinkKind → ℕ × ℕ
kind_key kind.Into = (0, 0)
kind_key kind.Next = (1, 0)
kind_key (kind.Arm value) = (2, value)
kind_key kind.Call = (3, 0)
kind_key kind.Catch = (4, 0)

abbrev pub kind_cmp : LinkKind → LinkKind → Ordering
kind_cmp = on kind_key pair_cmp

-- ---- links: by target, site, kind and source

abbrev pub by_target : Link → Link → Ordering
by_target = on (λ l. l.to) point_cmp

abbrev pub by_site : Link → Link → Ordering
by_site = on (λ l. l.site) nat_cmp

abbrev pub by_kind : Link → Link → Ordering
by_kind = on (λ l. l.kind) kind_cmp

abbrev pub by_source : Link → Link → Ordering
by_source = on (λ l. l.from) point_cmp

abbrev pub link_cmp : Link → Link → Ordering
link_cmp a b =
    ordering_then
    (ordering_then (ordering_then (by_target a b) (by_site a b)) (by_kind a b))
    (by_source a b)
