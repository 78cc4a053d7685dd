use Rattle.std.proofs.Common.{ap, sym, arith}
use Rattle.wy_operands.proofs.Puts.{part_is, none_there}
use Rattle.wy_operands.proofs.operands.Operands.place_of_uses.Goals as goal

pub returns-then-above-len-clause-uses : goal.returns-then-above-len-clause-uses
returns-then-above-len-clause-uses c = ap (λ v. v.uses) (sym (none_there c.args.self.now c.args.above (omega arith)))

pub returns-clause-in_order : goal.returns-clause-in_order
returns-clause-in_order c = (part_is c.args.self.now c.args.above _ _ _ (omega arith) c.beginning_of_last-from.ensures c.beginning_of_last.ensures).in_order

pub returns-clause-uses : goal.returns-clause-uses
returns-clause-uses c = (part_is c.args.self.now c.args.above _ _ _ (omega arith) c.beginning_of_last-from.ensures c.beginning_of_last.ensures).uses
