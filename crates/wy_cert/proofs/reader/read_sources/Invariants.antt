use Rattle.std.proofs.Common.{length}
use Rattle.wy_cert.proofs.Reading.{IsWithin}
use Rattle.wy_cert.proofs.reader.read_sources.Given as goal

abbrev pub invariant-loop-rest : goal.invariant-loop-rest
invariant-loop-rest l = IsWithin l.initial.sources.items l.sources.items l.bytes l.rest

abbrev pub decreases-loop-rest : goal.decreases-loop-rest
decreases-loop-rest l = length l.rest
