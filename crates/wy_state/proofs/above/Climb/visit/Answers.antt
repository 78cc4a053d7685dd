use Rattle.std.proofs.Common.{◌≡◌, ◌<◌, false, slice_index_or, length, refl, arith}
use Rattle.std.proofs.lemmas.Grind.{common_steps}
use Rattle.wy_state.specs.Above.{IsMarked}
use Rattle.wy_state.proofs.Climbing.{visited_again, visited_anew}
use Rattle.wy_state.proofs.above.Climb.visit.Goals.{else-place-len-via-then-place-len+else-not-index, else-place-len-via-else-place-len}
use Rattle.wy_state.proofs.above.Climb.visit.Goals as goal

pub returns-in_ok-push : goal.returns-in_ok-push
returns-in_ok-push c =
    let lt : c.args.class < length c.args.self.now.found.items = omega arith in
    let fresh : slice_index_or c.args.self.now.found.items c.args.class false ≡ false = grind (arith, common_steps, c.index.ensures) in
    record { visited = visited_anew c.args.class c.args.self.now _ lt fresh refl refl refl c.in_ok-push.ensures.items }

pub returns-else-place-len : goal.returns-else-place-len
returns-else-place-len c =
    let known : c.args.class < length c.args.self.now.found.items → IsMarked c.args.self.now.found.items c.args.class = λ lt. elim c.else-place-len.branch [
      | else-place-len-via-then-place-len+else-not-index w ↦ grind (arith, common_steps, w.index.ensures, w.if-not-index)
      | else-place-len-via-else-place-len w ↦ absurd (omega (arith, lt, w.if-place-len.false))
    ] in
    record { visited = visited_again c.args.class c.args.self.now _ known refl refl refl refl }
