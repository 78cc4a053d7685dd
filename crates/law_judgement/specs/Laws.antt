-- What makes a judgement sound to rely on.
use Rattle.std.specs.Prelude.{◌≡◌}
use Rattle.wy_kernel.specs.Table.{Table}
use Rattle.wy_elab_expr.specs.Operators.{Judgement, Settles}

-- what a table settles is settled in one way
abbrev pub OneJudgement : Type 0
OneJudgement = (t : Table) (j k : Judgement) → Settles t j → Settles t k → j ≡ k
