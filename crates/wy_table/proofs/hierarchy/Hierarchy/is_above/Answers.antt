use Rattle.std.proofs.Common.{◌⊎◌, ◌≤◌, ◌<◌, length, inl, inr, arith, ap, ◌∙◌}
use Rattle.std.proofs.lemmas.Bool.{false≢true}
use Rattle.wy_table.specs.Spans.{is_covered}
use Rattle.wy_table.proofs.Listed.{listed, not_listed}
use Rattle.wy_table.proofs.hierarchy.Hierarchy.is_above.Goals as goal
use Rattle.wy_table.proofs.hierarchy.Hierarchy.is_above.Goals.{then-c-len-via-then-c-len, then-c-len-via-else-c-len+then-d-len}

pub returns-then-c-len : goal.returns-then-c-len
returns-then-c-len c =
    let h = c.args.self.now in
    let beyond : (length h.rows.items ≤ c.args.c) ⊎ (length h.numbers.items ≤ c.args.d) =
    elim c.then-c-len.branch [
      | then-c-len-via-then-c-len w ↦ inl (omega (arith, c.len.ensures, w.if-c-len.true))
      | then-c-len-via-else-c-len+then-d-len w ↦ inr (omega (arith, w.len-else-c-len.ensures, w.if-d-len.true))
    ] in
    (λ t. absurd (false≢true t), λ l. absurd (not_listed h c.args.c c.args.d beyond l))

pub returns : goal.returns
returns c =
    let h = c.args.self.now in
    let in_rows : c.args.c < length h.rows.items = omega (arith, c.len.ensures, c.if-c-len.false) in
    let in_numbers : c.args.d < length h.numbers.items = omega (arith, c.len-else-c-len.ensures, c.if-d-len.false) in
    listed h c.args.c c.args.d c.index-2.result.now c.index.result.now c.is_covered.result in_rows in_numbers c.index.ensures c.index-2.ensures
    (c.is_covered.ensures ∙ ap (is_covered c.index-2.result.now) c.as_slice.ensures.value)
