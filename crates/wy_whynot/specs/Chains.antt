-- Chains of links.
use Rattle.std.specs.Prelude.{◌≡◌, List, [], ◌⊎◌}
use Rattle.wy_kernel.specs.Program.{Program}
use Rattle.wy_static.specs.declared.point.Point.{Point}
use Rattle.wy_static.specs.declared.point.Point.TheVariants as point
use Rattle.wy_static.specs.declared.point.Link.{Link}
use Rattle.wy_static.specs.Links.{IsLink}
use Rattle.wy_paths.specs.Leads.{Leads}

-- one or more links of the program lead from Start to a point
pub record IsChain (p : Program) (q : Point) (links : List Link) : Type 0 where
  pub some : links ≡ [] → ⊥
  pub leads : Leads (IsLink p) point.Start links q

-- a point is Start, or a chain leads to it
abbrev pub IsReached : Program → Point → Type 0
IsReached p q = (q ≡ point.Start) ⊎ ((links : List Link) × IsChain p q links)
