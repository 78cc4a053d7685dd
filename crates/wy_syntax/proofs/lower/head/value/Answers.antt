use Rattle.std.proofs.Common.{arith}
use Rattle.std.proofs.lemmas.Bool.{ltb-true, ltb-false}
use Rattle.wy_syntax.proofs.Heads.{no_value}
use Rattle.wy_syntax.proofs.lower.head.value.Goals.{in_default-via-then-parts-lt2, in_default-via-else-parts-lt2+else-parts-lt3}
use Rattle.wy_syntax.proofs.lower.head.value.Goals as goal

pub returns-in_default : goal.returns-in_default
returns-in_default c = no_value c.args.first c.args.parts.now (elim c.in_default.branch [ in_default-via-then-parts-lt2 w ↦ λ e. omega (arith, ltb-true, ltb-false) | in_default-via-else-parts-lt2+else-parts-lt3 w ↦ λ e. omega (arith, ltb-true, ltb-false) ])
