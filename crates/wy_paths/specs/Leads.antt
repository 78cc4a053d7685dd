-- Links, one behind another.
use Rattle.std.specs.Prelude.{◌≡◌, List, [], ◌∷◌}
use Rattle.wy_static.specs.declared.point.Point.{Point}
use Rattle.wy_static.specs.declared.point.Link.{Link}

-- zero or more links that are allowed lead from p to q: each begins where the last one ended
abbrev pub Leads : (Link → Type 0) → Point → List Link → Point → Type 0
Leads allowed p [] q = p ≡ q
Leads allowed p (l ∷ ls) q = allowed l × (l.from ≡ p) × Leads allowed l.to ls q
