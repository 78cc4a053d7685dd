use Rattle.std.proofs.Common.{◌≡◌, drop}
use Rattle.wy_telling.specs.Items.{last_from}
use Rattle.wy_telling.proofs.item.last_from.Given as goal

abbrev pub invariant-loop-number : goal.invariant-loop-number
invariant-loop-number l = last_from l.first l.rest ≡ last_from l.last (drop l.number-index l.rest)
