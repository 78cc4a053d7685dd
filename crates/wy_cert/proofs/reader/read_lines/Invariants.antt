use Rattle.wy_cert.proofs.Lines.{HasLines}
use Rattle.wy_cert.proofs.reader.read_lines.Given as goal

abbrev pub invariant-lines : goal.invariant-lines
invariant-lines l = HasLines l.counter l.count l.bytes l.rest l.listed.items l.least
