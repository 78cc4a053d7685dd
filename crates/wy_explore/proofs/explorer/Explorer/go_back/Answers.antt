use Rattle.wy_explore.proofs.Arms.{undo_missed, undo_told}
use Rattle.wy_explore.proofs.explorer.Explorer.go_back.Goals as goal

pub returns-then-undo-clause-reply : goal.returns-then-undo-clause-reply
returns-then-undo-clause-reply c = λ m covers rs. undo_told m covers rs c.args.self.now c.undo.new.self (c.if-undo.ensures {u = tt}).undoes

pub returns-else-undo-clause-reply : goal.returns-else-undo-clause-reply
returns-else-undo-clause-reply c = λ m covers rs. undo_missed m covers rs c.args.self.now c.undo.new.self (c.if-undo.ensures {u = tt}).undoes
