use Rattle.std.proofs.Common.{◌≡◌, [], drop}
use Rattle.std.specs.Prelude.{fold}
use Rattle.wy_explain.specs.Places.{with_byte}
use Rattle.wy_explain.proofs.line.last_line.Given as goal

abbrev pub invariant-loop-byte : goal.invariant-loop-byte
invariant-loop-byte l = fold with_byte [] l.before ≡ fold with_byte l.line.items (drop l.byte-index l.before)
