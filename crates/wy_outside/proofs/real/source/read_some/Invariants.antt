-- an interrupted read took nothing, and the room stays
use Rattle.std.proofs.Common.{◌≡◌, vec_len}
use Rattle.std.specs.Io.KnownBytes.{Keeps}
use Rattle.wy_outside.proofs.real.source.read_some.Given as goal

abbrev pub invariant-loop : goal.invariant-loop
invariant-loop g l =
    let left = g.T.Read.remaining in
    record {
      room : vec_len l.bytes ≡ l.room;
      kept : Keeps (left l.initial.reader) (left l.reader);
    }
