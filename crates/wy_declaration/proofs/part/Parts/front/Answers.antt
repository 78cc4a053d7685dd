use Rattle.std.proofs.Common.{◌-◌, length, refl, arith}
use Rattle.wy_declaration.proofs.Split.{in_front, widths_take}
use Rattle.wy_declaration.proofs.part.Parts.front.Goals as goal

pub invariant_of-result : goal.invariant_of-result
invariant_of-result c = record { within = omega (arith, widths_take (length c.args.self.trees.now - length c.args.last.trees.now) c.args.self.trees.now, c.args.self.within) }

pub returns : goal.returns
returns c = in_front c.args.self _ (length c.args.self.trees.now - length c.args.last.trees.now) refl refl
