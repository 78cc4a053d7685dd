-- What the links of a program answer.
use Rattle.std.specs.Prelude.{◌≡◌, ℕ, List, Option, ◌↔◌}
use Rattle.std.specs.BTreeMap.{get}
use Rattle.std.specs.List.{Contains, find}
use Rattle.std.specs.List.Sorted.{IsStrictlyIncreasing}
use Rattle.std.specs.Option.{option_map_or}
use Rattle.wy_kernel.specs.Program.{Program}
use Rattle.wy_kernel.specs.View.{NONE}
use Rattle.wy_static.specs.declared.point.Point.{Point}
use Rattle.wy_static.specs.declared.point.Point.TheVariants as point
use Rattle.wy_static.specs.declared.point.LinkKind.TheVariants as kind
use Rattle.wy_static.specs.declared.point.Link.{Link}
use Rattle.wy_static.specs.declared.standing.Standing.{Standing}
use Rattle.wy_static.specs.Standings.{standings_of, initializer_number}
use Rattle.wy_static.specs.declared.answer.Links.{Links}
use Rattle.wy_static.specs.Order.{point_key, same_point, triple_cmp}
use Rattle.wy_static.specs.Links.{IsLink, AreLinks}
use Rattle.wy_static.specs.Rows.{kept_under}

-- ---- targets

abbrev pub call_to : ℕ → Point → ℕ → Link
call_to site from n = record { kind = kind.Call; from = from; to = point.Entry n; site = site }

-- a call link at the site leads to the method's entry
pub record LeadsTo (p : Program) (site n : ℕ) : Type 0 where
  pub from : Point
  pub is_link : IsLink p (call_to site from n)

-- the methods to which calls at a site lead, each once and rising
pub record AreTargetsAt (p : Program) (site : ℕ) (methods : List ℕ) : Type 0 where
  pub exact : (n : ℕ) → Contains methods n ↔ LeadsTo p site n
  pub rising : IsStrictlyIncreasing methods

-- ---- in what a point stands

-- where a point first stands
abbrev pub standing_at : List Standing → Point → Option Standing
standing_at all q = find (λ x. same_point x.point q) all

-- the method in whose body a point stands, for an entry its own, for an initialization that of
-- the initializer; NONE for Start, and where it stands in none
abbrev pub method_of : Program → Point → ℕ
method_of p point.Start = NONE
method_of p (point.Entry m) = m
method_of p (point.Init c) = initializer_number c
method_of p q = option_map_or (λ x. x.method) (standing_at (standings_of p) q) NONE

-- the statement that a point is, or around an arm, else NONE
abbrev pub around_of : Program → Point → ℕ
around_of p q = option_map_or (λ x. x.around) (standing_at (standings_of p) q) NONE

-- ---- what is kept

-- the links, targets and standings of a program
pub record AreLinksOf (all : Links) (p : Program) : Type 0 where
  pub links : AreLinks p all.items.items
  pub targets : (site : ℕ) → AreTargetsAt p site (kept_under all.targets site)
  pub standings : (q : Point)
      → get triple_cmp all.standings (point_key q) ≡ standing_at (standings_of p) q
