-- The links between regions.
use Rattle.std.specs.Prelude.{◌≡◌, Bool, true, false, not, ◌&&◌, List, ◌↔◌}
use Rattle.std.specs.List.{Contains}
use Rattle.wy_kernel.specs.Program.{Program}
use Rattle.wy_static.specs.declared.point.Point.{Point}
use Rattle.wy_static.specs.declared.point.Point.TheVariants as point
use Rattle.wy_static.specs.declared.point.LinkKind.{LinkKind}
use Rattle.wy_static.specs.declared.point.LinkKind.TheVariants as kind
use Rattle.wy_static.specs.declared.point.Link.{Link}
use Rattle.wy_static.specs.Links.{IsLink}
use Rattle.wy_whynot.specs.Evidence.{site_of_tests}
use Rattle.wy_scope.specs.declared.region.Located.{Located}
use Rattle.wy_scope.specs.Regions.{region_among, regions_of}

-- arms, calls, initializations and clauses lead from region to region; what goes on in order stays
-- in one
abbrev pub leads_out : LinkKind → Bool
leads_out (kind.Arm value) = true
leads_out kind.Call = true
leads_out kind.Catch = true
leads_out _ = false

abbrev pub is_start : Point → Bool
is_start point.Start = true
is_start _ = false

-- a link leads out of a region, and isn't taken as the program starts
abbrev pub goes_between : Link → Bool
goes_between l = leads_out l.kind && not (is_start l.from)

-- a link from the region in which its source stands; that of an arm has the site of the tests
abbrev pub between_regions : List Located → Link → Link
between_regions all l = record {
  kind = l.kind;
  from = region_among all l.from;
  to = l.to;
  site = site_of_tests l l.to;
}

-- a link of the program that leads out of a region
pub record IsScopedLinkBy (p : Program) (all : List Located) (l : Link) : Type 0 where
  pub own : Link
  pub is_link : IsLink p own
  pub out : goes_between own ≡ true
  pub is : l ≡ between_regions all own

abbrev pub IsScopedLink : Program → Link → Type 0
IsScopedLink p l = IsScopedLinkBy p (regions_of p) l

-- exactly these, in any order and however often
abbrev pub AreScopedLinks : Program → List Located → List Link → Type 0
AreScopedLinks p all links = (l : Link) → Contains links l ↔ IsScopedLinkBy p all l
