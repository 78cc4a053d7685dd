-- Points by their numbers, and links between numbers.
use Rattle.std.specs.Prelude.{◌≡◌, ℕ, zero, suc, Bool, true, false, not, ◌&&◌, if◌then◌else◌, List, [], ◌∷◌, length, map, replicate, slice_index_or}
use Rattle.std.specs.List.{Contains}
use Rattle.std.specs.List.Sorted.{IsStrictlySortedBy}
use Rattle.std.specs.Ordering.{is_eq}
use Rattle.wy_static.specs.declared.point.Point.{Point}
use Rattle.wy_static.specs.declared.point.Link.{Link}
use Rattle.wy_static.specs.Order.{point_cmp}
use Rattle.wy_paths.specs.declared.search.Found.{Found}
use Rattle.wy_paths.specs.declared.graph.Edge.{Edge}
use Rattle.wy_paths.specs.Graph.{edge, IsSpread}

-- all ends of links are there, in order and each once
pub record AreNumbered (links : List Link) (points : List Point) : Type 0 where
  pub in_order : IsStrictlySortedBy point_cmp points
  pub ends : (l : Link) → Contains links l → Contains points l.from × Contains points l.to

-- all ends of links, the start and the goal are there
pub record HasEnds (links : List Link) (start goal : Point) (points : List Point) : Type 0 where
  pub has_start : Contains points start
  pub has_goal : Contains points goal
  pub ends : (l : Link) → Contains links l → Contains points l.from × Contains points l.to

abbrev pub IsInOrder : List Point → Type 0
IsInOrder points = IsStrictlySortedBy point_cmp points

-- in order, and each once
pub record ArePoints (links : List Link) (start goal : Point) (points : List Point) : Type 0 where
  pub there : HasEnds links start goal points
  pub in_order : IsInOrder points

-- where a point stands among points
unfoldable pub point_number : List Point → Point → ℕ
point_number [] q = zero
point_number (x ∷ xs) q = if is_eq (point_cmp x q) then zero else suc (point_number xs q)

abbrev pub edge_of : List Point → Link → Edge
edge_of points l = edge (point_number points l.from) (point_number points l.to)

abbrev pub turned : Edge → Edge
turned e = edge e.to e.from

-- ---- what was found

abbrev pub told : List Point → List Bool → Point → Bool
told points marks q = slice_index_or marks (point_number points q) false

-- a link from a point that was met and reached to one that leads on
abbrev pub is_picked : Found → Link → Bool
is_picked found l =
    let points = found.points.items in
    told points found.begun.items l.from
    && (told points found.reached.items l.from && told points found.leading.items l.to)

-- the ends of a link have numbers
pub record IsPlaced (found : Found) (l : Link) : Type 0 where
  pub in_order : IsInOrder found.points.items
  pub from : Contains found.points.items l.from
  pub to : Contains found.points.items l.to
  pub begun : length found.begun.items ≡ length found.points.items
  pub reached : length found.reached.items ≡ length found.points.items
  pub leading : length found.leading.items ≡ length found.points.items

-- what was found of the ends of links, by whether each was met
pub record IsFound (links : List Link) (start goal : Point) (found : Found) : Type 0 where
  pub points : ArePoints links start goal found.points.items
  pub sized : length found.begun.items ≡ length found.points.items
  pub reached : IsSpread (map (edge_of found.points.items) links)
      (replicate (length found.points.items) true)
      (point_number found.points.items start) found.reached.items
  pub leading : IsSpread (map turned (map (edge_of found.points.items) links))
      (map not found.begun.items)
      (point_number found.points.items goal) found.leading.items
