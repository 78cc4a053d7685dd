use Rattle.std.proofs.Common.{◌∙◌, ◌++◌, ◌∷◌, [], List, ℕ, ap, subst}
use Rattle.std.specs.Prelude.{OnOk}
use Rattle.wy_state.specs.Above.{HasVisited}
use Rattle.wy_state.proofs.Climbing.{above_alone, above_both, on_ok, visited_more}
use Rattle.wy_state.proofs.above.Climb.visit_above.Goals as goal

pub returns-then-row : goal.returns-then-row
returns-then-row c =
    let same = c.as_slice.ensures.value ∙ above_alone c.args.row.now c.if-row.true in
    record { visited = subst (λ (xs : List ℕ). OnOk c.visit_all.result (HasVisited xs c.args.self.now c.visit_all.new.self)) same c.visit_all.ensures.visited }

pub returns : goal.returns
returns c =
    let row = c.args.row.now in
    let same = ap (λ (xs : List ℕ). (row.above ∷ []) ++ xs) c.as_slice-2.ensures.value ∙ above_both row c.if-row.false in
    let more = visited_more (row.above ∷ []) c.as_slice-2.result.now c.args.self.now c.visit.new.self c.visit_all-2.new.self c.in_ok-visit.ensures.visited in
    record { visited = on_ok c.visit_all-2.result (λ v. subst (λ (xs : List ℕ). HasVisited xs c.args.self.now c.visit_all-2.new.self) same (more v)) c.visit_all-2.ensures.visited }
