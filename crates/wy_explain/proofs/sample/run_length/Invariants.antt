use Rattle.std.proofs.Common.{◌≡◌, ◌+◌, drop}
use Rattle.std.specs.List.{position_or_len}
use Rattle.wy_explain.specs.Samples.{ends_number}
use Rattle.wy_explain.proofs.sample.run_length.Given as goal

abbrev pub invariant-loop-i : goal.invariant-loop-i
invariant-loop-i l = position_or_len ends_number l.rest ≡ l.i + position_or_len ends_number (drop l.i l.rest)
