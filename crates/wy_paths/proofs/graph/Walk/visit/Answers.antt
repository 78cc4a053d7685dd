use Rattle.std.proofs.Common.{◌≡◌, ◌<◌, false, slice_index_or, length, refl, arith, rules}
use Rattle.std.proofs.lemmas.Grind.{common_steps}
use Rattle.wy_paths.specs.Graph.{IsMarked}
use Rattle.wy_paths.proofs.Spreading.{visited_anew}
use Rattle.wy_paths.proofs.graph.Walk.visit.Goals as goal

pub returns-in_ok-push : goal.returns-in_ok-push
returns-in_ok-push c =
    let lt : c.args.point < length c.args.self.now.marks.items = omega arith in
    let fresh : slice_index_or c.args.self.now.marks.items c.args.point false ≡ false = grind (arith, common_steps, c.index.ensures) in
    let is_open : IsMarked c.args.open.now c.args.point = search rules in
    record { visited = visited_anew c.args.open.now c.args.point c.args.self.now _ lt is_open fresh refl c.in_ok-push.ensures.items }
