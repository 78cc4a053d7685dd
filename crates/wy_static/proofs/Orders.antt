-- The orders of points, kinds and links: they are total, and tell any two apart.
use Rattle.std.proofs.Common.{◌≡◌, ℕ, zero, suc, sym, ap, ◌∙◌}
use Rattle.std.specs.Cmp.{IsTotalOrder}
use Rattle.std.specs.Ordering.{ordering_then}
use Rattle.std.specs.declared.cmp.Ordering.{Ordering}
use Rattle.std.specs.declared.cmp.Ordering.TheVariants.{Less, Equal, Greater}
use Rattle.std.proofs.lemmas.Cmp.{nat_cmp_total, on_total, then_total, tied_itself}
use Rattle.std.proofs.lemmas.Map.Lookups.{exact_unsigned}
use Rattle.wy_static.specs.declared.point.Point.{Point}
use Rattle.wy_static.specs.declared.point.Point.TheVariants as point
use Rattle.wy_static.specs.declared.point.LinkKind.{LinkKind}
use Rattle.wy_static.specs.declared.point.LinkKind.TheVariants as kind
use Rattle.wy_static.specs.declared.point.Link.{Link}
use Rattle.wy_static.specs.Order.{pair_cmp, triple_cmp, point_key, point_cmp, kind_key, kind_cmp, link_cmp}

pub pair_total : IsTotalOrder pair_cmp
pair_total = then_total (on_total (λ (x : ℕ × ℕ). x.0) nat_cmp_total) (on_total (λ (x : ℕ × ℕ). x.1) nat_cmp_total)

triple_total : IsTotalOrder triple_cmp
triple_total = then_total (then_total (on_total (λ (x : ℕ × ℕ × ℕ). x.0) nat_cmp_total) (on_total (λ (x : ℕ × ℕ × ℕ). x.1) nat_cmp_total)) (on_total (λ (x : ℕ × ℕ × ℕ). x.2) nat_cmp_total)

pub point_total : IsTotalOrder point_cmp
point_total = on_total point_key triple_total

kind_total : IsTotalOrder kind_cmp
kind_total = on_total kind_key pair_total

pub link_total : IsTotalOrder link_cmp
link_total = then_total (then_total (then_total (on_total (λ (l : Link). l.to) point_total) (on_total (λ (l : Link). l.site) nat_cmp_total)) (on_total (λ (l : Link). l.kind) kind_total)) (on_total (λ (l : Link). l.from) point_total)

-- ---- what is equal by an order is the same

-- two orders, one behind the other, are equal where both are
then_equal : (a b : Ordering) → ordering_then a b ≡ Equal → (a ≡ Equal) × (b ≡ Equal)
then_equal Less b e = cc
then_equal Equal b e = (λ i. Equal, e)
then_equal Greater b e = cc

pub same_pair : (a b : ℕ × ℕ) → pair_cmp a b ≡ Equal → a ≡ b
same_pair a b e =
    let parts = then_equal _ _ e in
    let first : a.0 ≡ b.0 = exact_unsigned _ _ parts.0 in
    let second : a.1 ≡ b.1 = exact_unsigned _ _ parts.1 in
    λ i. (first i, second i)

same_triple : (a b : ℕ × ℕ × ℕ) → triple_cmp a b ≡ Equal → a ≡ b
same_triple a b e =
    let parts = then_equal _ _ e in
    let front = then_equal _ _ parts.0 in
    let first : a.0 ≡ b.0 = exact_unsigned _ _ front.0 in
    let second : a.1 ≡ b.1 = exact_unsigned _ _ front.1 in
    let third : a.2 ≡ b.2 = exact_unsigned _ _ parts.1 in
    λ i. (first i, second i, third i)

-- the point with a kind and numbers
point_with : ℕ → ℕ → ℕ → Point
point_with zero n v = point.Start
point_with (suc zero) n v = point.Entry n
point_with (suc (suc zero)) n v = point.Init n
point_with (suc (suc (suc zero))) n v = point.Statement n
point_with (suc (suc (suc (suc zero)))) n v = point.Arm n v
point_with (suc (suc (suc (suc (suc r))))) n v = point.Catch n

point_of : ℕ × ℕ × ℕ → Point
point_of k = point_with k.0 k.1 k.2

its_point : (q : Point) → point_of (point_key q) ≡ q
unfolding point_of point_with
its_point point.Start = λ i. point.Start
its_point (point.Entry m) = λ i. point.Entry m
its_point (point.Init c) = λ i. point.Init c
its_point (point.Statement n) = λ i. point.Statement n
its_point (point.Arm site value) = λ i. point.Arm site value
its_point (point.Catch site) = λ i. point.Catch site

pub same_points : (a b : Point) → point_cmp a b ≡ Equal → a ≡ b
same_points a b e = sym (its_point a) ∙ ap point_of (same_triple (point_key a) (point_key b) e) ∙ its_point b

pub itself : (q : Point) → point_cmp q q ≡ Equal
itself q = tied_itself point_total q

kind_with : ℕ → ℕ → LinkKind
kind_with zero v = kind.Into
kind_with (suc zero) v = kind.Next
kind_with (suc (suc zero)) v = kind.Arm v
kind_with (suc (suc (suc zero))) v = kind.Call
kind_with (suc (suc (suc (suc r)))) v = kind.Catch

kind_of : ℕ × ℕ → LinkKind
kind_of k = kind_with k.0 k.1

its_kind : (k : LinkKind) → kind_of (kind_key k) ≡ k
unfolding kind_of kind_with
its_kind kind.Into = λ i. kind.Into
its_kind kind.Next = λ i. kind.Next
its_kind (kind.Arm v) = λ i. kind.Arm v
its_kind kind.Call = λ i. kind.Call
its_kind kind.Catch = λ i. kind.Catch

same_kinds : (a b : LinkKind) → kind_cmp a b ≡ Equal → a ≡ b
same_kinds a b e = sym (its_kind a) ∙ ap kind_of (same_pair (kind_key a) (kind_key b) e) ∙ its_kind b

pub same_links : (a b : Link) → link_cmp a b ≡ Equal → a ≡ b
same_links a b e =
    let parts = then_equal _ _ e in
    let front = then_equal _ _ parts.0 in
    let first = then_equal _ _ front.0 in
    let to = same_points a.to b.to first.0 in
    let site = exact_unsigned a.site b.site first.1 in
    let kind = same_kinds a.kind b.kind front.1 in
    let from = same_points a.from b.from parts.1 in
    λ i. record { kind = kind i; from = from i; to = to i; site = site i }
