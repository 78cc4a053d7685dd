use Rattle.std.proofs.Common.{◌∙◌, ap, ap₂, ◌++◌}
use Rattle.wy_reply.proofs.SizesLine.{sizes_are}
use Rattle.wy_reply.proofs.generating.line.Goals as goal

pub returns : goal.returns
returns c = sizes_are _ _ _ _ _ _ _ c.in_ok-first.ensures.ok c.in_ok-second.ensures.ok (c.in_ok-extend_from_slice.ensures.items ∙ ap₂ (λ x y. x ++ y) (ap (λ v. v.items) c.into_bytes-line.ensures.value) c.as_bytes.ensures.value)
