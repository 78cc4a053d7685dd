use Rattle.wy_operands.proofs.Puts.{under_top}
use Rattle.wy_operands.proofs.operands.Operands.place_under_top.Goals as goal

pub returns-clause-in_order : goal.returns-clause-in_order
returns-clause-in_order c = (under_top c.args.self.now _ _ c.beginning_of_last-from.ensures c.beginning_of_last.ensures).0

pub returns-clause-uses : goal.returns-clause-uses
returns-clause-uses c = (under_top c.args.self.now _ _ c.beginning_of_last-from.ensures c.beginning_of_last.ensures).1
