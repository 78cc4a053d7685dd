use Rattle.wy_explore.proofs.Arms.{up_missed, up_told}
use Rattle.wy_explore.proofs.explorer.Explorer.go_up.Goals as goal

pub returns-then-up-clause-reply : goal.returns-then-up-clause-reply
returns-then-up-clause-reply c = λ m covers rs all. up_told m covers rs c.args.self.now c.up.new.self all (c.if-up.ensures {u = tt}).moves

pub returns-else-up-clause-reply : goal.returns-else-up-clause-reply
returns-else-up-clause-reply c = λ m covers rs all. up_missed m covers rs c.args.self.now c.up.new.self all (c.if-up.ensures {u = tt}).moves
