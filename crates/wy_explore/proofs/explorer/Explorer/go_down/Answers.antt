use Rattle.wy_explore.proofs.Arms.{down_missed, down_told}
use Rattle.wy_explore.proofs.explorer.Explorer.go_down.Goals as goal

pub returns-then-down-clause-reply : goal.returns-then-down-clause-reply
returns-then-down-clause-reply c = λ m covers rs all. down_told m covers rs c.args.self.now c.down.new.self all (c.if-down.ensures {u = tt}).moves

pub returns-else-down-clause-reply : goal.returns-else-down-clause-reply
returns-else-down-clause-reply c = λ m covers rs all. down_missed m covers rs c.args.self.now c.down.new.self all (c.if-down.ensures {u = tt}).moves
