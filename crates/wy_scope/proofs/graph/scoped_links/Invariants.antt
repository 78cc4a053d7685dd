use Rattle.std.proofs.Common.{◌≡◌, List, map, take}
use Rattle.std.specs.Prelude.{filter}
use Rattle.wy_scope.specs.declared.region.Located.{Located}
use Rattle.wy_scope.specs.Graph.{between_regions, goes_between}
use Rattle.wy_scope.specs.Kept.{AreKept}
use Rattle.wy_scope.proofs.graph.scoped_links.Given as goal

abbrev pub invariant-loop-link : goal.invariant-loop-link
invariant-loop-link l = (all : List Located) → AreKept all l.kept → l.found.items ≡ map (between_regions all) (filter goes_between (take l.link-index l.links))
