use Rattle.std.proofs.Common.{◌∙◌, ◌++◌, ap₂}
use Rattle.wy_operation.proofs.texts.printing.line.Goals as goal

pub returns : goal.returns
returns c = c.in_ok-extend_from_slice.ensures.items ∙ ap₂ (λ xs ys. xs ++ ys) c.in_ok-bytes.ensures c.line_end.ensures
