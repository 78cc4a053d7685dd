use Rattle.std.proofs.Common.{◌≡◌, length, map, take}
use Rattle.std.specs.Prelude.{All}
use Rattle.wy_paths.specs.Graph.{LiesIn}
use Rattle.wy_paths.specs.Numbers.{edge_of}
use Rattle.wy_paths.proofs.points.edges_of.Given as goal

abbrev pub invariant-loop-link : goal.invariant-loop-link
invariant-loop-link l = record {
  edges : l.edges.items ≡ map (edge_of l.points) (take l.link-index l.links);
  lie : All (LiesIn (length l.points)) l.edges.items;
}
