use Rattle.std.proofs.Common.{◌≡◌, [], drop}
use Rattle.std.specs.Prelude.{fold}
use Rattle.wy_explain.specs.Places.{with_blank}
use Rattle.wy_explain.proofs.line.indent.Given as goal

abbrev pub invariant-loop-byte : goal.invariant-loop-byte
invariant-loop-byte l = fold with_blank [] l.line ≡ fold with_blank l.blanks.items (drop l.byte-index l.line)
