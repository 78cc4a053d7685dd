use Rattle.std.proofs.Common.{ap, sym, ◌∙◌, subst, List, ℕ, ◌++◌}
use Rattle.std.specs.Option.{option_to_list}
use Rattle.wy_kernel.specs.Rows.{TakesEach}
use Rattle.wy_kernel.specs.View.{present}
use Rattle.wy_kernel.proofs.Taking.{takes_both, takes_present, takes_absent, if_ok}
use Rattle.wy_kernel.proofs.closure.take_above.Goals as goal
use Rattle.wy_kernel.proofs.closure.take_above.Goals.{then-class+in_ok-take, else-class}

pub returns : goal.returns
returns c =
    let above = c.args.class.now.above in
    let head : TakesEach c.args.row.now.items (option_to_list (present above)) c.if-class.row.items =
    elim c.if-class.branch [
      | then-class+in_ok-take w ↦ (let P : List ℕ → Type 0 = λ xs. TakesEach c.args.row.now.items (option_to_list (present above)) xs in
          subst P (sym (ap (λ r. r.items) w.row-is)) (takes_present _ _ above w.if-class.true w.in_ok-take.ensures))
      | else-class w ↦ takes_absent _ _ above w.if-class.false (ap (λ r. r.items) w.row-is)
    ] in
    if_ok c.take_each.result (λ tail. takes_both _ _ _ _ _ _ head tail (ap (λ w. option_to_list (present above) ++ w) (sym c.as_slice.ensures.value))) c.take_each.ensures
