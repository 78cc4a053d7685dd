use Rattle.std.proofs.Common.{arith}
use Rattle.std.proofs.lemmas.Grind.{text_groups}
use Rattle.wy_table.proofs.methods.put_named.Goals as goal

pub returns : goal.returns
returns c = grind (arith, text_groups)
