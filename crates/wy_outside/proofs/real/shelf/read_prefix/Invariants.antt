-- what was read was taken from the front, and is no more than was asked for
use Rattle.std.proofs.Common.{◌≤◌, vec_len}
use Rattle.std.specs.Io.KnownBytes.{Consumes}
use Rattle.wy_outside.proofs.real.shelf.read_prefix.Given as goal

abbrev pub invariant-loop : goal.invariant-loop
invariant-loop g l =
    let left = g.T.Read.remaining in
    record {
      bound : vec_len l.bytes ≤ l.max;
      taken : Consumes (left l.initial.file) (left l.file) l.bytes.items;
    }
