-- The links that are found along ways, and the methods to which calls among them lead.
use Rattle.std.specs.Prelude.{◌≡◌, ℕ, List, [], ◌∷◌, ◌++◌, map, Option, Some, if◌then◌else◌, ◌⊎◌, ◌↔◌}
use Rattle.std.specs.Prelude.{None as Absent}
use Rattle.std.specs.BTreeMap.{BTreeMap, get}
use Rattle.std.specs.List.{Contains}
use Rattle.std.specs.List.Sorted.{IsStrictlyIncreasing}
use Rattle.wy_kernel.specs.Program.{Program}
use Rattle.wy_static.specs.declared.point.Point.{Point}
use Rattle.wy_static.specs.declared.point.Point.TheVariants as point
use Rattle.wy_static.specs.declared.point.Link.{Link}
use Rattle.wy_static.specs.declared.way.Way.{Way}
use Rattle.wy_static.specs.declared.standing.Standing.{Standing}
use Rattle.std.specs.declared.cmp.Ordering.TheVariants.{Less}
use Rattle.wy_static.specs.declared.point.LinkKind.{LinkKind}
use Rattle.wy_static.specs.declared.point.LinkKind.TheVariants as kind
use Rattle.wy_static.specs.Rows.{Rows, kept_under}
use Rattle.wy_static.specs.Order.{link_cmp, point_key, same_point, triple_cmp}
use Rattle.wy_static.specs.Links.{IsAlong, IsAlongOneOf}
use Rattle.wy_static.specs.LookUps.{call_to}

-- the link along a way to a point
abbrev pub link_along : Way → Point → Link
link_along w q = record { kind = w.kind; from = w.from; to = q; site = w.site }

-- the links along a way to the entries of methods
abbrev pub links_to_each : Way → List ℕ → List Link
links_to_each w methods = map (λ n. link_along w (point.Entry n)) methods

-- those before, and those along a way besides
abbrev pub AddsAlong : Program → Way → List Link → List Link → Type 0
AddsAlong p w old new = (l : Link) → Contains new l ↔ (Contains old l ⊎ IsAlong p w l)

-- exactly the links along some ways
abbrev pub AreAlong : Program → List Way → List Link → Type 0
AreAlong p ways links = (l : Link) → Contains links l ↔ IsAlongOneOf p ways l

-- the same links, in any order and however often
abbrev pub SameLinks : List Link → List Link → Type 0
SameLinks old new = (l : Link) → Contains new l ↔ Contains old l

-- the methods to which calls among some links lead from a site, each once and rising
pub record AreCalledAt (links : List Link) (site : ℕ) (methods : List ℕ) : Type 0 where
  pub exact : (n : ℕ) → Contains methods n ↔ ((from : Point) × Contains links (call_to site from n))
  pub rising : IsStrictlyIncreasing methods

abbrev pub AreCalled : List Link → Rows → Type 0
AreCalled links rows = (site : ℕ) → AreCalledAt links site (kept_under rows site)

abbrev pub entry_of : Point → Option ℕ
entry_of (point.Entry m) = Some m
entry_of _ = Absent

abbrev pub called_by : LinkKind → Option ℕ → Option ℕ
called_by kind.Call entry = entry
called_by _ entry = Absent

-- the method to whose entry a call leads
abbrev pub method_called : Link → Option ℕ
method_called l = called_by l.kind (entry_of l.to)

-- each of some links is before this one in order
abbrev pub IsBehind : List Link → Link → Type 0
IsBehind front x = (y : Link) → Contains front y → link_cmp y x ≡ Less

-- what was called in links before a link, and now in these with it
abbrev pub AddsCall : Rows → Rows → Link → Type 0
AddsCall rows now x = (front : List Link)
    → IsBehind front x → AreCalled front rows → AreCalled (front ++ x ∷ []) now

-- ---- where points stand

abbrev pub Standings : Type 0
Standings = BTreeMap (ℕ × ℕ × ℕ) Standing

abbrev pub kept_at : Standings → Point → Option Standing
kept_at kept q = get triple_cmp kept (point_key q)

abbrev pub its_standing : Standing → Point → Option Standing
its_standing x q = if same_point x.point q then Some x else Absent
