use Rattle.std.proofs.Common.{take}
use Rattle.wy_paths.specs.Graph.{HasVisited, ends_of}
use Rattle.wy_paths.proofs.graph.Walk.visit_all.Given as goal

abbrev pub invariant-loop-edge : goal.invariant-loop-edge
invariant-loop-edge l = HasVisited l.open (ends_of (take l.edge-index l.edges)) l.initial.self l.self
