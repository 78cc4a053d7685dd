use Rattle.std.proofs.Common.{◌≤◌, arith, rules, ltb, leb}
use Rattle.std.proofs.lemmas.List.Sorted.{IsPartitionPoint-from_clause, IsPartitionedBy-leb, IsPartitionedBy-ltb}
use Rattle.wy_paths.specs.declared.graph.Edge.{Edge}
use Rattle.wy_paths.proofs.Spreading.{edges_between, places_rise}
use Rattle.wy_paths.proofs.graph.edges_from.Goals as goal

pub slice_bounds-result-count : goal.slice_bounds-result-count
slice_bounds-result-count c =
    let low = IsPartitionPoint-from_clause (λ (e : Edge). ltb e.from c.args.point) _ _ c.partition_point-low.ensures.partitioned (IsPartitionedBy-ltb (λ (e : Edge). e.from) _ c.args.point c.requires) (λ a r q k. search rules) in
    let high = IsPartitionPoint-from_clause (λ (e : Edge). leb e.from c.args.point) _ _ c.partition_point-high.ensures.partitioned (IsPartitionedBy-leb (λ (e : Edge). e.from) _ c.args.point c.requires) (λ a r q k. search rules) in
    places_rise c.args.edges.now c.args.point c.partition_point-low.result c.partition_point-high.result low high (omega arith)

pub slice_bounds-result-start : goal.slice_bounds-result-start
slice_bounds-result-start c =
    let low = IsPartitionPoint-from_clause (λ (e : Edge). ltb e.from c.args.point) _ _ c.partition_point-low.ensures.partitioned (IsPartitionedBy-ltb (λ (e : Edge). e.from) _ c.args.point c.requires) (λ a r q k. search rules) in
    let high = IsPartitionPoint-from_clause (λ (e : Edge). leb e.from c.args.point) _ _ c.partition_point-high.ensures.partitioned (IsPartitionedBy-leb (λ (e : Edge). e.from) _ c.args.point c.requires) (λ a r q k. search rules) in
    let rise : c.partition_point-low.result ≤ c.partition_point-high.result = places_rise c.args.edges.now c.args.point c.partition_point-low.result c.partition_point-high.result low high (omega arith) in
    search rules

pub returns : goal.returns
returns c =
    let low = IsPartitionPoint-from_clause (λ (e : Edge). ltb e.from c.args.point) _ _ c.partition_point-low.ensures.partitioned (IsPartitionedBy-ltb (λ (e : Edge). e.from) _ c.args.point c.requires) (λ a r q k. search rules) in
    let high = IsPartitionPoint-from_clause (λ (e : Edge). leb e.from c.args.point) _ _ c.partition_point-high.ensures.partitioned (IsPartitionedBy-leb (λ (e : Edge). e.from) _ c.args.point c.requires) (λ a r q k. search rules) in
    let ordered = places_rise c.args.edges.now c.args.point c.partition_point-low.result c.partition_point-high.result low high (omega arith) in
    edges_between c.args.edges.now c.args.point c.partition_point-low.result c.partition_point-high.result low high ordered (omega arith)
