-- Where what was met ends on the ways to a point that was not.
use Rattle.std.specs.Prelude.{◌≡◌, Bool, true, false, List, ◌↔◌}
use Rattle.std.specs.List.{Contains}
use Rattle.std.specs.List.Sorted.{IsStrictlySortedBy}
use Rattle.wy_static.specs.declared.point.Point.{Point}
use Rattle.wy_static.specs.declared.point.Link.{Link}
use Rattle.wy_paths.specs.Leads.{Leads}
use Rattle.wy_paths.specs.Order.{item_cmp}

-- an allowed link into a point that was not met
abbrev pub IsUnmet : (Link → Type 0) → (Point → Bool) → Link → Type 0
IsUnmet allowed met l = allowed l × (met l.to ≡ false)

-- a link from a point that was met, and to which links lead from the start; and from its target
-- links lead to the goal through points alone that were not met
pub record IsFrontier (allowed : Link → Type 0) (met : Point → Bool) (start goal : Point) (l : Link)
    : Type 0 where
  pub is_link : allowed l
  pub begun : met l.from ≡ true
  pub before : List Link
  pub reached : Leads allowed start before l.from
  pub never : met l.to ≡ false
  pub onward : List Link
  pub leads : Leads (IsUnmet allowed met) l.to onward goal

-- all of them, each once and in order
pub record AreFrontier (allowed : Link → Type 0) (met : Point → Bool) (start goal : Point)
    (links : List Link) : Type 0 where
  pub exact : (l : Link) → Contains links l ↔ IsFrontier allowed met start goal l
  pub in_order : IsStrictlySortedBy item_cmp links
