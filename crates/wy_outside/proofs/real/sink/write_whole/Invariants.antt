-- the bytes before the place were appended
use Rattle.std.proofs.Common.{◌≤◌, length, take}
use Rattle.std.specs.Io.KnownBytes.{Appends}
use Rattle.wy_outside.proofs.real.sink.write_whole.Given as goal

abbrev pub invariant-loop : goal.invariant-loop
invariant-loop g l =
    let contents = g.W.Write.contents in
    record {
      within : l.at ≤ length l.bytes;
      front : Appends (contents l.initial.out) (contents l.out) (take l.at l.bytes);
    }
