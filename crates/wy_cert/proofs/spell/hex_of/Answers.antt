use Rattle.std.proofs.Common.{arith}
use Rattle.hex.specs.Hex.{lower_digits}
use Rattle.hex.proofs.HexLemmas.{length-encode_with}
use Rattle.wy_cert.proofs.Made.{hex_lower}
use Rattle.wy_cert.proofs.spell.hex_of.Goals as goal

pub returns-clause-digits : goal.returns-clause-digits
returns-clause-digits c = (omega (arith, length-encode_with lower_digits c.args.seal.now, c.told-seal), hex_lower c.args.seal.now c.fits-seal)
