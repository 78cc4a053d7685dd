use Rattle.std.proofs.Common.{arith}
use Rattle.std.proofs.lemmas.Bool.{ltb-true, ltb-false}
use Rattle.wy_syntax.proofs.Heads.{for_nothing}
use Rattle.wy_syntax.proofs.lower.head.for_parts.Goals as goal
use Rattle.wy_syntax.proofs.lower.head.for_parts.Goals.{then-parts-lt2, else-parts-lt2+else-parts-lt3}

pub returns-in_default-parts : goal.returns-in_default-parts
returns-in_default-parts c =
    for_nothing c.args.first c.args.parts.now
    (elim c.if-parts-lt2.branch [ then-parts-lt2 w ↦ λ e. omega (arith, ltb-true, ltb-false) | else-parts-lt2+else-parts-lt3 w ↦ λ e. omega (arith, ltb-true, ltb-false) ])
    c.in_default-parts.len_below
